-- The rows by type id, and the classes by compact id, as a schema holds them.
use Rattle.std.specs.Prelude.{ℕ, ◌+◌, ◌≤◌, IsTrue, List, length, nat_eq, Option}
use Rattle.std.specs.BTreeMap.{get_by_text}
use Rattle.std.specs.HashMap.{get, spare}
use Rattle.ice_types.specs.declared.compact_ids.CompactIds.{CompactIds}
use Rattle.ice_types.specs.declared.ids.Ids.{Ids}
use Rattle.ice_types.specs.declared.kind.RowRef.{RowRef}
use Rattle.ice_types.specs.Tables.{Tables, HasRowId, HasCompactId, Finds, is_defined}
use Rattle.ice_types.specs.Rules.{Beside, IsKept, defined}
use Rattle.ice_types.specs.Inherited.{HasFarBases}

-- the row that is held for this id
abbrev pub row_in : Ids → List ℕ → Option RowRef
row_in ids id = get_by_text ids.rows id

-- each id is held with its row, and no other
abbrev pub AreFound : Tables → (List ℕ → Option RowRef) → Type 0
AreFound t row_of = (id : List ℕ) → Finds (HasRowId t id) (row_of id)

-- what a schema holds beside its tables is right
pub record IsHeld (t : Tables) (beside : Beside) (row_of : List ℕ → Option RowRef) : Type 0 where
  pub kept : IsKept t beside
  pub far_bases : HasFarBases t.classes beside.classes
  pub found : AreFound t row_of

-- ---- compact ids

-- the class that is held for this compact id
abbrev pub class_in : CompactIds → ℕ → Option ℕ
class_in ids number = get nat_eq ids.classes number

-- how many more compact ids can be held without further memory
abbrev pub room_in : CompactIds → ℕ
room_in ids = spare ids.classes

-- each compact id is held with its class, and no other
pub record AreNumbered (t : Tables) (class_of : ℕ → Option ℕ) (room : ℕ) : Type 0 where
  pub found : (number : ℕ) → Finds (HasCompactId t number) (class_of number)
  -- a class that is only declared has none, and there is room for one of each
  pub declared : (number at : ℕ) → HasCompactId t number at → IsTrue (is_defined t.defined_classes at)
  pub enough : length t.classes ≤ defined t.defined_classes + room
