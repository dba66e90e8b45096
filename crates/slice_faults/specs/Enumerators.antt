-- The enumerators of each enum, by name.
use Rattle.std.specs.Prelude.{ℕ, ◌≡◌, Bool, false, List, None, Some, String, length, slice_get, bytes_eq}
use Rattle.std.specs.List.{list_any}
use Rattle.std.specs.BTreeSet.{BTreeSet, contains_text}
use Rattle.ice_types.specs.declared.declarations.Entry.{Entry}
use Rattle.ice_types.specs.Tables.{Tables}
use Rattle.slice_meaning.specs.Names.{Name}
use Rattle.slice_meaning.specs.Values.{has_enumerator}

-- an enumerator has this name
abbrev pub has_name : List Entry → Name → Bool
has_name entries name = list_any (λ entry. bytes_eq entry.name name) entries

-- the set is that of the enumerators' names
abbrev pub HoldsEntries : {Y : Type 0} → BTreeSet (String Y) → List Entry → Type 0
HoldsEntries held entries = (name : Name) → contains_text held name ≡ has_name entries name

-- the set at this place has this name
abbrev pub holds_at : {Y : Type 0} → List (BTreeSet (String Y)) → ℕ → Name → Bool
holds_at sets at name = elim (slice_get sets at) [
  | None ↦ false
  | Some held ↦ contains_text held name
]

-- there is a set for each enum, which at its place has the names of its enumerators
abbrev pub AreHeld : {Y : Type 0} → List (BTreeSet (String Y)) → Tables → Type 0
AreHeld sets t = (length sets ≡ length t.enums)
    × ((at : ℕ) (name : Name) → holds_at sets at name ≡ has_enumerator t at name)
