-- The two sorts of slices: those of an instance, which are of classes, and those of an exception; and what differs between them.
use Rattle.std.specs.Prelude.{ℕ, Bool, true, false, List, [], ◌∷◌, Option, None, Some}
use Rattle.ice_types.specs.Tables.{Tables}
use Rattle.ice_encoding.specs.Port.{Port, Reader}
use Rattle.ice_encoding.specs.Reading.{plain}
use Rattle.ice_encoding.specs.Steps.{given}
use Rattle.ice_encoding.specs.Classes.{class_named, base_of}
use Rattle.ice_encoding.specs.Graph.{Slice}
use Rattle.ice_encoding.specs.Flags.{IdForm, Flags, all_slices, Before, first, only_unknown, derived, may_stand}
use Rattle.ice_encoding.specs.References.{State, seen}
use Rattle.ice_encoding.specs.TypeIds.{type_id_at, id_at, class_in, ends_well}
use Rattle.ice_encoding.specs.Slices.{slices_at}
use Rattle.ice_encoding.specs.Exceptions.{of_exceptions, may_be_raised, may_be_last, user_exception_slices}
use Rattle.value_parts.specs.declared.sliced_type.SlicedType.{SlicedType}
use Rattle.value_parts.specs.declared.sliced_type.SlicedType.TheVariants as sorts

-- which flags may stand
abbrev pub may_begin : SlicedType → Before → Flags → Bool
may_begin sorts.Class = may_stand
may_begin sorts.Exception = may_be_raised

-- the id, which of an exception is always a text and is not counted
abbrev pub id_by : SlicedType → IdForm → Reader (State ℕ) (List ℕ)
id_by sorts.Class form = id_at form
id_by sorts.Exception form = plain type_id_at

-- what the id stands for
abbrev pub class_by : SlicedType → Tables → Before → List ℕ → Option ℕ
class_by sorts.Class t before id = class_in t before id
class_by sorts.Exception t before id = class_named t id

-- whether the flag of the last slice may stand there, or lack
abbrev pub ends_by : SlicedType → Tables → Option ℕ → Flags → Bool
ends_by sorts.Class t class f = ends_well t class f
ends_by sorts.Exception t class f = may_be_last t class f

-- whether nothing has to follow: what is kept of an exception without the flag is the last where nothing is left
abbrev pub is_over : SlicedType → Before → List ℕ → Bool
is_over sorts.Class before bytes = false
is_over sorts.Exception first bytes = false
is_over sorts.Exception only_unknown [] = true
is_over sorts.Exception only_unknown (b ∷ bs) = false
is_over sorts.Exception (derived sized base) bytes = false

-- ---- what the slice behind one follows, None behind the last

-- behind a known one
abbrev pub behind_base : Bool → Option ℕ → Option Before
behind_base sized None = None
behind_base sized (Some base) = Some (derived sized base)

-- behind an unknown one, by the flag of the last
abbrev pub behind_unknown : Bool → Option Before
behind_unknown true = None
behind_unknown false = Some only_unknown

-- what the slice behind this one follows, None behind the last
abbrev pub behind_slice : Tables → Option ℕ → Flags → Option Before
behind_slice t None f = behind_unknown f.is_last
behind_slice t (Some class) f = behind_base f.has_size (base_of t class)

-- ---- slices from one on, by how references are read

module _ (refer : Option ℕ → Reader (State ℕ) (Option ℕ)) where
  -- the same as a port, by which nothing is spelled
  abbrev pub port_by : Port (State ℕ) (State (Unit {0}))
  port_by = record { seen = seen; read = refer; Spells = λ declared bytes n from to. ⊥ }

  -- where one has to begin
  abbrev pub slices_by : SlicedType → Tables → ℕ → Before → Reader (State ℕ) (List Slice)
  slices_by sorts.Class t steps before = slices_at refer t all_slices steps before
  slices_by sorts.Exception t steps before = user_exception_slices port_by (of_exceptions t) all_slices steps before

  abbrev pub unless_over : Bool → Reader (State ℕ) (List Slice) → Reader (State ℕ) (List Slice)
  unless_over true next = given []
  unless_over false next = next

  -- where one begins or nothing has to follow
  abbrev pub slices_from : SlicedType → Tables → ℕ → Before → Reader (State ℕ) (List Slice)
  slices_from sort t steps before s r = unless_over (is_over sort before r.bytes) (slices_by sort t steps before) s r
