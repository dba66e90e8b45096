-- What every schema keeps.
use Rattle.std.specs.Prelude.{ℕ, suc, ◌≡◌, ◌≤◌, ◌<◌, Bool, true, false, List, [], ◌∷◌, length, map, Option, None, Some, slice_get, unwrap_or}
use Rattle.std.specs.Option.{is_some}
use Rattle.ice_types.specs.declared.kind.TypeRef.{TypeRef}
use Rattle.ice_types.specs.declared.kind.TypeRef.TheVariants as kinds
use Rattle.ice_types.specs.declared.kind.RowRef.{RowRef}
use Rattle.ice_types.specs.declared.measure.Measure.{Measure}
use Rattle.ice_types.specs.declared.rows.Above.{Above}
use Rattle.ice_types.specs.declared.rows.TheConstants.{MOST_ROWS}
use Rattle.ice_types.specs.declared.schema.TheConstants.{MOST_DEPTH, MOST_BASES, MOST_NUMBER}
use Rattle.ice_types.specs.Tables.{Tables, HasRowId, HasCompactId, IsTypeId}
use Rattle.ice_types.specs.Measures.{measure, paths_of}
use Rattle.ice_types.specs.Fits.{SeqFits, DictFits, StructFits, EnumFits, ClassFits, ExceptionFits, InterfaceFits}
use Rattle.ice_types.specs.Bases.{class_base, exception_base, HasBases}

-- how many rows the tables have
pub record HasRoom (t : Tables) : Type 0 where
  pub seqs : length t.seqs < MOST_ROWS
  pub dicts : length t.dicts < MOST_ROWS
  pub structs : length t.structs < MOST_ROWS
  pub enums : length t.enums < MOST_ROWS
  pub classes : length t.classes < MOST_ROWS
  pub exceptions : length t.exceptions < MOST_ROWS
  pub interfaces : length t.interfaces < MOST_ROWS

-- each row of a table is so
abbrev pub EachRow : {A : Type 0} → List A → (A → Type 0) → Type 0
EachRow {A} rows Is = (at : ℕ) (row : A) → slice_get rows at ≡ Some row → Is row

-- what every schema keeps: room, a flag for each class and interface, type ids of which none is of two rows, compact ids of
-- which none is of two classes, each row of each table fits, and no class or exception is a base of its own
pub record IsSchema (t : Tables) : Type 0 where
  pub room : HasRoom t
  -- a flag for each class and each interface
  pub class_flags : length t.defined_classes ≡ length t.classes
  pub interface_flags : length t.defined_interfaces ≡ length t.interfaces
  -- type ids, none of two rows
  pub type_ids : (id : List ℕ) (row : RowRef) → HasRowId t id row → IsTypeId id
  pub apart : (id : List ℕ) (a b : RowRef) → HasRowId t id a → HasRowId t id b → a ≡ b
  -- compact ids within the limit, none of two classes
  pub compact_ids : (number at : ℕ) → HasCompactId t number at → number ≤ MOST_NUMBER
  pub compact_apart : (number a b : ℕ) → HasCompactId t number a → HasCompactId t number b → a ≡ b
  -- each row is within the limits
  pub seqs : EachRow t.seqs (λ q. SeqFits t q.element)
  pub dicts : EachRow t.dicts (λ d. DictFits t d.key d.value)
  pub structs : EachRow t.structs (λ d. StructFits t d.members)
  pub enums : EachRow t.enums (λ e. EnumFits e.entries)
  pub classes : EachRow t.classes (λ c. ClassFits t c.base c.members)
  pub exceptions : EachRow t.exceptions (λ e. ExceptionFits t e.base e.members)
  pub interfaces : EachRow t.interfaces (λ i. InterfaceFits t i.bases i.ops)
  -- no class or exception is a base of its own
  pub class_bases : (at : ℕ) → at < length t.classes → (bases : ℕ) × HasBases (class_base t) at bases
  pub exception_bases : (at : ℕ) → at < length t.exceptions → (bases : ℕ) × HasBases (exception_base t) at bases

-- ---- what is kept beside the rows

-- at the same place: what the schema says of each type, how many bases each class and exception has, and by paths each interface,
-- and the far base of each class; None beside a class or interface that is only declared
pub record Beside : Type 0 where
  pub seqs : List Measure
  pub dicts : List Measure
  pub structs : List Measure
  pub enums : List Measure
  pub classes : List (Option Above)
  pub exceptions : List ℕ
  pub interfaces : List (Option ℕ)

-- what stands beside no rows
abbrev pub nothing : Beside
nothing = record { seqs = []; dicts = []; structs = []; enums = []; classes = []; exceptions = []; interfaces = [] }

-- what stands beside the rows of types is what the tables say of each
abbrev pub AreMeasures : Tables → (ℕ → TypeRef) → List Measure → Type 0
AreMeasures t kind found = (at : ℕ) → slice_get found at ≡ measure t MOST_DEPTH (kind at)

-- how many rows are defined
abbrev pub defined : List Bool → ℕ
defined [] = 0
defined (true ∷ flags) = suc (defined flags)
defined (false ∷ flags) = defined flags

-- how many bases a class has by what stands beside it, none where it is only declared
abbrev pub bases_by : Option Above → ℕ
bases_by None = 0
bases_by (Some above) = above.bases

-- what stands beside the rows is right
pub record IsKept (t : Tables) (beside : Beside) : Type 0 where
  pub rules : IsSchema t
  pub seqs : AreMeasures t kinds.Seq beside.seqs
  pub dicts : AreMeasures t kinds.Dict beside.dicts
  pub structs : AreMeasures t kinds.Struct beside.structs
  pub enums : AreMeasures t kinds.Enum beside.enums
  pub class_flags : t.defined_classes ≡ map is_some beside.classes
  pub interface_flags : t.defined_interfaces ≡ map is_some beside.interfaces
  pub exceptions_beside : length beside.exceptions ≡ length t.exceptions
  -- no class has more bases than there are defined classes, and no exception as many as stand before it
  pub classes : (at : ℕ) (above : Option Above) → slice_get beside.classes at ≡ Some above → HasBases (class_base t) at (bases_by above) × (bases_by above ≤ defined t.defined_classes)
  pub exceptions : (at bases : ℕ) → slice_get beside.exceptions at ≡ Some bases → HasBases (exception_base t) at bases × (bases ≤ at)
  pub interfaces : (at : ℕ) (paths : Option ℕ) → slice_get beside.interfaces at ≡ Some paths → unwrap_or paths 0 ≡ paths_of t (suc MOST_BASES) at
