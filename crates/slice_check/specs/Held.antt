-- How the walk's names and files are held.
use Rattle.std.specs.Prelude.{ℕ, ◌≡◌, ◌↔◌, Bool, true, false, List, [], ◌∷◌, String, IsTrue, length, Contains}
use Rattle.std.specs.BTreeSet.{BTreeSet, btree_set_len, contains_text}
use Rattle.slice_meaning.specs.Names.{Name}

-- the set is that of the names, each of which stands once
pub record Holds {Y : Type 0} (held : BTreeSet (String Y)) (names : List Name) : Type 0 where
  pub those : (name : Name) → IsTrue (contains_text held name) ↔ Contains names name
  pub count : btree_set_len held ≡ length names

-- the includes from the first on that is of no loaded file
abbrev pub unloaded : (Name → Bool) → List (Name × ℕ) → List (Name × ℕ)
unloaded is_loaded [] = []
unloaded is_loaded (i ∷ others) =
    elim (is_loaded i.0) [ true ↦ unloaded is_loaded others | false ↦ i ∷ others ]
