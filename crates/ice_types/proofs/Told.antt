-- What holds after a call that may fail, by what holds where it does not and where it does.
use Rattle.std.proofs.Common.{◌≡◌, ℕ, List, Bool, true, false, not, Option, Some, None, IsTrue, ◌↔◌, refl, sym, subst}
use Rattle.std.specs.Option.{is_some}
use Rattle.std.specs.Prelude.{Result, Ok, Err, IfOk, OnErr}
use Rattle.ice_types.specs.declared.kind.RowRef.{RowRef}
use Rattle.ice_types.specs.Tables.{Tables, HasRowId, Finds, IsTypeId, IsNewId}
use Rattle.ice_types.specs.Rules.{Beside}
use Rattle.ice_types.specs.Ids.{IsHeld}

pub told : {A E P Y : Type 0} {Q : A → Type 0} (r : Result A E) → IfOk r Q → OnErr r Y → ((x : A) → Q x → P) → (Y → P) → P
told (Ok x) q y ok err = ok x q
told (Err e) q y ok err = err y

pub if_ok : {A E : Type 0} {Q P : A → Type 0} (r : Result A E) → IfOk r Q → ((x : A) → Q x → P x) → IfOk r P
if_ok (Ok x) q more = more x q
if_ok (Err e) q more = tt

pub on_err : {A E P Y : Type 0} (r : Result A E) → OnErr r Y → (Y → P) → OnErr r P
on_err (Ok x) y more = tt
on_err (Err e) y more = more y

-- ids that are held as they were
pub held_same : (t : Tables) (beside : Beside) (row_of now : List ℕ → Option RowRef) → ((id : List ℕ) → now id ≡ row_of id) → IsHeld t beside row_of → IsHeld t beside now
held_same t beside row_of now same held = record {
  kept = held.kept;
  far_bases = held.far_bases;
  found = λ id. subst (Finds (HasRowId t id)) (sym (same id)) (held.found id);
}

-- a type id is new where no row is found by it
pub new_row : (t : Tables) (id : List ℕ) → IsTypeId id → (row : Option RowRef) → Finds (HasRowId t id) row → (none : Bool) → is_some row ≡ not none → IsTrue none ↔ (IsTypeId id × IsNewId t id)
new_row t id is None found true e = (λ _. (is, found), λ _. refl)
new_row t id is None found false e = absurd cc
new_row t id is (Some row) found true e = absurd cc
new_row t id is (Some row) found false e = (λ h. absurd cc, λ h. absurd (h.1 row found))
