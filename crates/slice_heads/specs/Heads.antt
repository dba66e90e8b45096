-- What the calls answer that take the head of a slice: its flags, its id, and the tests of its class.
use Rattle.std.specs.Prelude.{ℕ, suc, ◌≡◌, true, List, Option, Some, Result, Ok, Err, slice_get}
use Rattle.std.specs.Borrow.{Bor}
use Rattle.ice_types.specs.Tables.{Tables}
use Rattle.ice_prims.specs.declared.fault.Fault.{Fault}
use Rattle.ice_prims.specs.declared.fault.Kind.TheVariants.{UnknownClass, WrongBase, BadLast, BadTypeId}
use Rattle.ice_prims.specs.declared.fault.ReadFault.{ReadFault}
use Rattle.ice_prims.specs.declared.fault.ReadFault.TheVariants as faults
use Rattle.ice_prims.specs.Rest.{Rest, fault}
use Rattle.ice_prims.specs.Taking.{Fails}
use Rattle.ice_encoding.specs.Port.{Reader}
use Rattle.ice_encoding.specs.Steps.{tested}
use Rattle.ice_encoding.specs.Graph as graphs
use Rattle.ice_encoding.specs.Flags.{Flags, IdForm, flags_of, all_slices, flags_at}
use Rattle.ice_encoding.specs.Flags as flags
use Rattle.ice_encoding.specs.TypeIds.{type_id_at, id_indexed, is_base, can_be_read}
use Rattle.ice_encoding.specs.References.{State}
use Rattle.value_parts.specs.SlicedType.{rows_of}
use Rattle.value_parts.specs.SliceIds.{id_of}
use Rattle.value_parts.specs.declared.sliced_type.SlicedType.{SlicedType}
use Rattle.value_parts.specs.declared.slice_id.SliceId.{SliceId}
use Rattle.slice_heads.specs.Sorts.{may_begin, id_by, ends_by}

-- flags that may stand
abbrev pub SeesFlags : SlicedType → flags.Before → Result ℕ Fault → Rest → Rest → Type 0
SeesFlags sort before (Ok b) r r' = flags_at (may_begin sort before) r ≡ Ok (flags_of b, r')
SeesFlags sort before (Err e) r r' = flags_at (may_begin sort before) r ≡ Err e

-- the id in this form
abbrev pub ReadsIdIn : IdForm → SlicedType → Result SliceId ReadFault → State ℕ → Rest → State ℕ → Rest → Type 0
ReadsIdIn form sort (Ok id) s r s' r' = id_by sort form s r ≡ Ok (id_of id, s', r')
ReadsIdIn form sort (Err e) s r s' r' = Fails e (id_by sort form s r)

-- the id in the form that the flags say
abbrev pub ReadsId : SlicedType → ℕ → Result SliceId ReadFault → State ℕ → Rest → State ℕ → Rest → Type 0
ReadsId sort b = ReadsIdIn (flags_of b).id sort

-- a type id as a text, with the same fault
abbrev pub TakesTypeId : Result (Bor (List ℕ)) Fault → Rest → Rest → Type 0
TakesTypeId (Ok id) r r' = type_id_at r ≡ Ok (id.now, r')
TakesTypeId (Err e) r r' = type_id_at r ≡ Err e

abbrev pub FindsId : Fault → ℕ → List (List ℕ) → Result (Bor (List ℕ)) ReadFault → Type 0
FindsId wrong index ids (Ok id) = (i : ℕ) × (index ≡ suc i) × (slice_get ids i ≡ Some id.now)
FindsId wrong index ids (Err e) = (e ≡ faults.Broken wrong) × ((s : State ℕ) (r : Rest) → s.ids ≡ ids → id_indexed wrong.place index s r ≡ fault wrong.place BadTypeId)

-- the class passes the tests behind a type id, or the first that fails is the fault
abbrev pub Tests : {X : Type 0} → SlicedType → Tables → flags.Before → Flags → ℕ → ℕ → Option ℕ → Result X Fault → Type 0
Tests sort t before f flags_place id_place class (Ok x) = (is_base before class ≡ true) × (can_be_read all_slices class f ≡ true) × (ends_by sort (rows_of sort t) class f ≡ true)
Tests sort t before f flags_place id_place class (Err e) = (read : Reader (State ℕ) (List graphs.Slice)) (s : State ℕ) (r : Rest)
    → tested (is_base before class) id_place WrongBase (tested (can_be_read all_slices class f) id_place UnknownClass (tested (ends_by sort (rows_of sort t) class f) flags_place BadLast read)) s r ≡ Err e
