-- What is still written of values that have begun, and what the calls that write on answer.
use Rattle.std.specs.Prelude.{ℕ, ◌≡◌, ◌+◌, ◌<◌, ◌≤◌, List, [], ◌∷◌, ◌++◌, map, Option, None, Some, Result, Ok, Err}
use Rattle.std.specs.declared.alloc.AllocError.{AllocError}
use Rattle.ice_encoding.specs.Tree.{Tree, boolean, byte, short, int, long, text, sequence, dictionary, struct, enumerator, proxy, reference, Trees, none, tree, Entries, no_entry, entry, InEach, InPairs}
use Rattle.ice_encoding.specs.Canonical.{HasSize}
use Rattle.ice_encoding.specs.Writing.{Piece, exactly, ◌>>◌, written, written_each, written_pairs}
use Rattle.ice_encoding.specs.Pausing.{Put, written_in_place}
use Rattle.graph_arena.specs.View.{view, view_all, view_pairs}
use Rattle.value_writing.specs.declared.writer.Level.{Level}
use Rattle.value_writing.specs.declared.writer.Level.TheVariants as levels
use Rattle.value_writing.specs.declared.writer.ValueWriter.{ValueWriter}

-- what a call of a port did: the reference, and the instance that it begins
abbrev pub Puts : {S : Type 0} → (Option ℕ → S → Put S) → Option ℕ → Result (Option ℕ) AllocError → S → List ℕ → S → List ℕ → Type 0
Puts {S} put name (Ok begun) s out s' out' = (out' ≡ out ++ (put name s).bytes) × ((put name s).begun ≡ begun) × ((put name s).after ≡ s')
Puts {S} put name (Err e) s out s' out' = Unit {0}

-- fewer may begin where one has just begun, and no more in any case
abbrev pub NarrowsOnPut : Result (Option ℕ) AllocError → ℕ → ℕ → Type 0
NarrowsOnPut (Ok None) before after = after ≤ before
NarrowsOnPut (Ok (Some n)) before after = after < before
NarrowsOnPut (Err e) before after = Unit {0}

-- the writing of the instance of this name, which begins here
abbrev pub InsideWritten : Type 0 → Type 0
InsideWritten S = ℕ → Piece S

-- what is remembered, and the bytes so far
abbrev pub Written : Type 0 → Type 0
Written S = S × List ℕ

-- with a piece behind the bytes so far
abbrev pub onto : {S : Type 0} → Piece S → Written S → Written S
onto piece w = let p = piece w.0 in (p.1, w.1 ++ p.0)

-- what is left at one level
pub data Waiting : Type 0 where
  Values : Trees → Waiting
  Pairs : Entries → Waiting

abbrev pub waiting : Level → Waiting
waiting (levels.Value value) = Values (tree (view value.now) none)
waiting (levels.Values slice) = Values (view_all slice.now)
waiting (levels.Pairs slice) = Pairs (view_pairs slice.now)

-- what is left at each level, the innermost last
abbrev pub lists : ValueWriter → List Waiting
lists writer = map waiting writer.levels

module _ {S : Type 0} (put : Option ℕ → S → Put S) (inside : InsideWritten S) where
  abbrev pub level_written : Waiting → Piece S
  level_written (Values vs) = written_each (written_in_place put inside) vs
  level_written (Pairs ps) = written_pairs (written_in_place put inside) ps

  -- the innermost level is written first
  abbrev pub left_written : List Waiting → Piece S
  left_written [] = exactly []
  left_written (level ∷ inner) = left_written inner >> level_written level

abbrev pub level_fits : Waiting → Type 0
level_fits (Values vs) = InEach HasSize vs
level_fits (Pairs ps) = InPairs HasSize ps

-- each size that is still written is at most the greatest int
abbrev pub all_fit : List Waiting → Type 0
all_fit [] = Unit {0}
all_fit (level ∷ inner) = level_fits level × all_fit inner

-- how many values there are, each list of them counted once more, and each value of a pair
abbrev mutual
  pub tree_size : Tree → ℕ
  tree_size (boolean b) = 1
  tree_size (byte n) = 1
  tree_size (short z) = 1
  tree_size (int z) = 1
  tree_size (long z) = 1
  tree_size (text s) = 1
  tree_size (sequence items) = 2 + trees_size items
  tree_size (dictionary pairs) = 2 + entries_size pairs
  tree_size (struct members) = 2 + trees_size members
  tree_size (enumerator n) = 1
  tree_size (proxy p) = 1
  tree_size (reference n) = 1

  pub trees_size : Trees → ℕ
  trees_size none = 0
  trees_size (tree v vs) = tree_size v + trees_size vs

  pub entries_size : Entries → ℕ
  entries_size no_entry = 0
  entries_size (entry k v rest) = (1 + tree_size k + tree_size v) + entries_size rest

abbrev pub level_size : Waiting → ℕ
level_size (Values vs) = trees_size vs
level_size (Pairs ps) = entries_size ps

-- how many steps are left
abbrev pub work_left : List Waiting → ℕ
work_left [] = 0
work_left (level ∷ inner) = (1 + level_size level) + work_left inner

-- the value is written, and what is remembered is as it is behind it
abbrev pub WritesValue : {S : Type 0} → (Option ℕ → S → Put S) → InsideWritten S → Tree → Result (Unit {0}) AllocError → S → List ℕ → S → List ℕ → Type 0
WritesValue {S} put inside v (Ok x) s out s' out' = (out' ≡ out ++ (written (written_in_place put inside) v s).0) × (s' ≡ (written (written_in_place put inside) v s).1)
WritesValue {S} put inside v (Err e) s out s' out' = Unit {0}
