-- What slices are of: what differs between those of instances and those of exceptions.
-- (Ice manual, "Data Encoding for Class and Exception Types".)
use Rattle.std.specs.Prelude.{ℕ, Bool, true, false, List, [], ◌∷◌}
use Rattle.ice_types.specs.Tables.{Tables}
use Rattle.ice_prims.specs.Bytes.{text_bytes}
use Rattle.ice_encoding.specs.Writing.{Piece, exactly}
use Rattle.ice_encoding.specs.Flags.{IdForm, no_id}
use Rattle.ice_encoding.specs.Graph.{Slice}
use Rattle.ice_encoding.specs.Classes.{place_of}
use Rattle.ice_encoding.specs.CanonicalGraph.{Pen, flags_byte, has_optional, head_as, written_id, written_head}
use Rattle.value_parts.specs.SlicedType.{rows_of}
use Rattle.value_parts.specs.declared.sliced_type.SlicedType.{SlicedType}
use Rattle.value_parts.specs.declared.sliced_type.SlicedType.TheVariants.{Class, Exception}

-- the flags and a type id, as an index where it was written before, else as a text
abbrev pub text_head : (IdForm → ℕ) → List ℕ → Piece Pen
text_head flags id p = head_as (place_of p.ids id) flags id p

-- The flags and an id. Of an exception it always stands as a text, of which the flags tell nothing, and is not counted.
abbrev pub head_of : SlicedType → (IdForm → ℕ) → List ℕ → Piece Pen
head_of Class flags id = written_head flags id
head_of Exception flags id = exactly (flags no_id ∷ text_bytes id)

-- those of a slice: whether it has a table, whether it has a size, and whether it is the last
abbrev pub slice_head : SlicedType → Tables → Bool → Bool → Bool → Slice → Piece Pen
slice_head sort t tabled sized is_last s = head_of sort (λ form. flags_byte form (has_optional s) tabled sized is_last) (written_id (rows_of sort t) s)

-- ---- in compact format

-- The id stands in the first slice of an instance, and in each of an exception.
abbrev pub has_plain_id : SlicedType → Bool → Bool
has_plain_id Class first = first
has_plain_id Exception first = true

-- the flags, and the id where it stands
abbrev pub plain_head : SlicedType → Tables → Bool → Bool → Slice → Piece Pen
plain_head sort t first is_last s = elim (has_plain_id sort first) [
  | true ↦ slice_head sort t false false is_last s
  | false ↦ exactly (flags_byte no_id (has_optional s) false false is_last ∷ [])
]
