-- What a graph is: the values of its roots, and class instances by name. (Ice manual, "Classes".)
use Rattle.std.specs.Prelude.{ℕ, Bool, List}
use Rattle.ice_encoding.specs.OptionalMembers.{Members}

-- a slice of an instance
pub data Slice : Type 0 where
  -- a class and the values of its members
  known : ℕ → Members → Slice
  -- what was kept of a class that is not known: its id (a type id, or `#n` for a compact id n), bytes, whether optional members
  -- stand in them, and the names in its table
  unknown : List ℕ → List ℕ → Bool → List ℕ → Slice

-- An instance is its slices from the most derived class on. Its name is its place.
pub record Graph : Type 0 where
  pub roots : Members
  pub instances : List (List Slice)
