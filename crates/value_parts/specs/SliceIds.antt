-- The ids of slices, as they stand in an encapsulation.
use Rattle.std.specs.Prelude.{ℕ, List}
use Rattle.ice_types.specs.CompactIds.{numbered_id}
use Rattle.value_parts.specs.declared.slice_id.SliceId.{SliceId}
use Rattle.value_parts.specs.declared.slice_id.SliceId.TheVariants as ids

-- the same, without where it lies in memory
abbrev pub id_of : SliceId → List ℕ
id_of (ids.Text id) = id.now
id_of (ids.Number number) = numbered_id number
