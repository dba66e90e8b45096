-- Which graphs can be noted.
use Rattle.std.specs.Prelude.{ℕ, ◌<◌, List, [], ◌∷◌, length}
use Rattle.ice_types.specs.Tables.{Tables}
use Rattle.ice_encoding.specs.Typed.{by_size}
use Rattle.ice_encoding.specs.Graph.{Slice, known, unknown, Graph}
use Rattle.ice_encoding.specs.Instances.{slices_of}
use Rattle.ice_encoding.specs.TypedGraph.{AreReferred, IsKnown}
use Rattle.ice_encoding.specs.Visiting.{place, order}
use Rattle.graph_json.specs.Contents.{ContentIsShort}

-- the texts of proxies are short enough
abbrev pub SliceNotable : Slice → Type 0
SliceNotable (known class content) = ContentIsShort content
SliceNotable (unknown id bytes optionals table) = Unit {0}

-- so in each slice of an instance
abbrev pub InstanceNotable : List Slice → Type 0
InstanceNotable [] = Unit {0}
InstanceNotable (s ∷ ss) = SliceNotable s × InstanceNotable ss

-- so in the roots, and in each instance that is reached
pub record IsNotable (g : Graph) : Type 0 where
  pub roots : ContentIsShort g.roots
  pub instances : (n : ℕ) → place (order g) n < length (order g) → InstanceNotable (slices_of g.instances n)

-- ---- what is listed

-- values of the members of a class, where each reference is a number; numbers in a table
abbrev pub SliceHasValues : Tables → Slice → Type 0
SliceHasValues t (known class content) = IsKnown t by_size class content
SliceHasValues t (unknown id bytes optionals table) = AreReferred by_size table

-- so in each slice of an instance
abbrev pub InstanceHasValues : Tables → List Slice → Type 0
InstanceHasValues t [] = Unit {0}
InstanceHasValues t (s ∷ ss) = SliceHasValues t s × InstanceHasValues t ss

-- in each instance of the list
abbrev pub HaveValues : Tables → List (List Slice) → Type 0
HaveValues t [] = Unit {0}
HaveValues t (i ∷ is) = InstanceHasValues t i × HaveValues t is
