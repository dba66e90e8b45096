-- The ids of slices, as they are written.
use Rattle.std.specs.Prelude.{◌≡◌, ◌≤◌, None}
use Rattle.ice_types.specs.declared.schema.TheConstants.{MOST_NUMBER}
use Rattle.ice_types.specs.CompactIds.{number_in}
use Rattle.value_parts.specs.declared.sliced_type.SlicedType.{SlicedType}
use Rattle.value_parts.specs.declared.sliced_type.SlicedType.TheVariants.{Class, Exception}
use Rattle.value_parts.specs.declared.slice_id.SliceId.{SliceId}
use Rattle.value_parts.specs.declared.slice_id.SliceId.TheVariants as ids

-- a compact id is told apart; an exception has none
abbrev pub IsTold : SlicedType → SliceId → Type 0
IsTold Class (ids.Text id) = number_in id.now ≡ None
IsTold Class (ids.Number number) = number ≤ MOST_NUMBER
IsTold Exception (ids.Text id) = Unit {0}
IsTold Exception (ids.Number number) = ⊥
