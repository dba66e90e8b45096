-- What is still written of instances and exceptions that have begun.
use Rattle.std.specs.Prelude.{ℕ, zero, suc, ◌≡◌, ◌+◌, ◌-◌, ◌*◌, ◌<◌, Bool, true, false, List, [], ◌∷◌, ◌++◌, length, Option, Result, Ok, Err}
use Rattle.std.specs.declared.alloc.AllocError.{AllocError}
use Rattle.ice_types.specs.declared.declarations.Member.{Member}
use Rattle.ice_types.specs.declared.declarations.Shape.{Shape}
use Rattle.ice_types.specs.Tables.{Tables}
use Rattle.ice_prims.specs.Bytes.{size_bytes}
use Rattle.ice_encoding.specs.Writing.{Piece, exactly, ◌>>◌}
use Rattle.ice_encoding.specs.Pausing.{written_in_place}
use Rattle.ice_encoding.specs.Graph.{Slice, Graph}
use Rattle.ice_encoding.specs.Names.{instance_names}
use Rattle.ice_encoding.specs.Slices.{slice_size}
use Rattle.ice_encoding.specs.Instances.{slices_of}
use Rattle.ice_encoding.specs.CanonicalGraph.{Pen, Format, sliced, compact, table_of, sized_bytes, is_there, sized_body, members_bytes, written_slices, written_bases, written_plain, written_as, written_instance, put_inline}
use Rattle.ice_encoding.specs.UserExceptionWritten.{user_exception_as}
use Rattle.graph_arena.specs.Arena.{AreBelow}
use Rattle.graph_arena.specs.Seen.{view_slices}
use Rattle.value_writing.specs.Putting.{InsideWritten, Written, onto}
use Rattle.value_parts.specs.declared.sliced_type.SlicedType.{SlicedType}
use Rattle.value_parts.specs.declared.sliced_type.SlicedType.TheVariants.{Class, Exception}
use Rattle.value_parts.specs.SlicedType.{rows_of}
use Rattle.instance_writing.specs.declared.unfinished.Unfinished.{Unfinished}
use Rattle.instance_writing.specs.Sorts.{slice_head, plain_head}
use Rattle.instance_writing.specs.Writable.{SlicesCanBeWritten}
use Rattle.instance_writing.specs.Opened.{refer_to, is_first, open_left, OpenFits}

-- ---- a slice by itself

-- the size of a table that has an entry
abbrev pub table_size : List ℕ → List ℕ
table_size [] = []
table_size (n ∷ ns) = size_bytes (length (n ∷ ns))

-- in sliced format, up to the entries of its table: flags and type id, size, members, and the size of the table
abbrev pub slice_front : SlicedType → Tables → Bool → Slice → Piece Pen
slice_front sort t is_last s = slice_head sort t (is_there (table_of s)) true is_last s
    >> exactly ((slice_size.put (length (sized_bytes (rows_of sort t) s)) ++ sized_bytes (rows_of sort t) s) ++ table_size (table_of s))

-- one of the slices of an instance or an exception: whether it is the first, and whether it is the last
abbrev pub one_slice : SlicedType → Tables → (Option ℕ → Piece Pen) → Format → Bool → Bool → Slice → Piece Pen
one_slice sort t refer sliced first is_last s = slice_head sort t (is_there (table_of s)) true is_last s >> sized_body (rows_of sort t) refer s
one_slice sort t refer compact first is_last s = plain_head sort t first is_last s >> members_bytes (rows_of sort t) refer s

-- ---- an instance, or an exception

-- the slices that have not begun, the first one among them or not
abbrev pub others_left : SlicedType → Tables → (Option ℕ → Piece Pen) → Format → Bool → List Slice → Piece Pen
others_left Class t refer sliced first = written_slices t refer
others_left Class t refer compact true = written_plain t refer
others_left Class t refer compact false = written_bases t refer
others_left Exception t refer f first = user_exception_as t refer f

-- the slice that has begun, and those behind it
abbrev pub instance_left : SlicedType → Tables → Format → InsideWritten Pen → Unfinished → Written Pen → Written Pen
instance_left sort t f inside u w = onto (others_left sort t (refer_to inside) f (is_first u.current) (view_slices u.slices.now)) (open_left t inside u.current w)

-- ---- instances in one another

abbrev pub one_less : ℕ → ℕ
one_less zero = zero
one_less (suc n) = n

-- what is written at a reference where an instance begins, which is counted: so many more may begin in one another
abbrev pub inside_at : Tables → Format → Graph → ℕ → InsideWritten Pen
inside_at t f g zero n p = ([], record { begun = one_less p.begun; ids = p.ids })
inside_at t f g (suc depth) n p = written_as t (written_in_place put_inline (written_instance t f g depth)) f (slices_of g.instances n) p

-- what is left of instances in one another, the innermost last
abbrev pub stack_left : Tables → Format → Graph → ℕ → List Unfinished → Written Pen → Written Pen
stack_left t f g depth [] w = w
stack_left t f g depth (u ∷ inner) w = instance_left Class t f (inside_at t f g depth) u (stack_left t f g (depth - 1) inner w)

-- ---- what can be written

-- an instance or an exception, behind this output: its names are below the count
pub record Fits (t : Tables) (count : ℕ) (u : Unfinished) (out : List ℕ) : Type 0 where
  pub current : OpenFits count u.current out
  pub names : AreBelow count (instance_names (view_slices u.slices.now))
  pub slices : SlicesCanBeWritten t (view_slices u.slices.now)

abbrev pub AllFit : Tables → ℕ → List Unfinished → List ℕ → Type 0
AllFit t count [] out = Unit {0}
AllFit t count (u ∷ inner) out = Fits t count u out × AllFit t count inner out

-- the next slice has begun and one fewer is behind it, or there is none
abbrev pub BeginsNext : SlicedType → Tables → Format → InsideWritten Pen → Result Bool AllocError → Unfinished → Unfinished → Written Pen → Written Pen → Type 0
BeginsNext sort t f inside (Ok true) old new w w' = onto (others_left sort t (refer_to inside) f (is_first old.current) (view_slices old.slices.now)) w ≡ instance_left sort t f inside new w'
BeginsNext sort t f inside (Ok false) old new w w' = onto (others_left sort t (refer_to inside) f (is_first old.current) (view_slices old.slices.now)) w ≡ w'
BeginsNext sort t f inside (Err e) old new w w' = Unit {0}

abbrev pub LessOnNext : Result Bool AllocError → ℕ → ℕ → Type 0
LessOnNext (Ok true) old new = new < old
LessOnNext (Ok false) old new = Unit {0}
LessOnNext (Err e) old new = Unit {0}

-- how many steps are left at most
abbrev pub steps_left : ℕ → ℕ → ℕ
steps_left room depth = 2 * room + depth

-- the shape of which these are the optional members
abbrev pub with_options : List Member → Shape
with_options optional = record { required = []; optional = optional }
