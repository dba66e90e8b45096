-- The id of a slice, the class that it stands for, and the tests that follow it. (Ice manual, "Data Encoding for Class and Exception
-- Types", "Compact Type IDs".)
use Rattle.std.specs.Prelude.{ℕ, zero, suc, ◌≡◌, Bool, true, false, not, ◌&&◌, List, [], ◌∷◌, ◌++◌, Option, None, Some, Result, Ok, is_none, nat_eq, slice_get, if◌then◌else◌}
use Rattle.ice_types.specs.Tables.{Tables}
use Rattle.ice_types.specs.CompactIds.{is_numbered, numbered_id}
use Rattle.ice_encoding.specs.Classes.{class_by_id, base_of}
use Rattle.ice_prims.specs.declared.fault.Fault.{Fault}
use Rattle.ice_prims.specs.declared.fault.Kind.TheVariants.{BadTypeId}
use Rattle.ice_prims.specs.Rest.{Rest, fault, ◌>>=◌}
use Rattle.ice_prims.specs.Number.{SpellsSize, SpellsText, size_at, text_at}
use Rattle.ice_encoding.specs.Port.{Reader, Speller}
use Rattle.ice_encoding.specs.Steps.{Given}
use Rattle.ice_encoding.specs.References.{State}
use Rattle.ice_encoding.specs.Flags.{IdForm, no_id, as_text, as_index, as_number, Flags, Reach, is_all, Before, first, only_unknown, derived}

-- ---- a type id as a text: one that begins with `#` is the fault

-- a text that does not begin so
abbrev pub SpellsTypeId : List ℕ → List ℕ → Type 0
SpellsTypeId bytes id = SpellsText bytes id × (is_numbered id ≡ false)

-- by the text that was read
abbrev pub unless_numbered : ℕ → List ℕ × Rest → Result (List ℕ × Rest) Fault
unless_numbered place id = if is_numbered id.0 then fault place BadTypeId else Ok id

-- reading it
abbrev pub type_id_at : Rest → Result (List ℕ × Rest) Fault
type_id_at r = text_at r >>= unless_numbered r.place

-- ---- the id of a slice, empty where none stands

-- one more type id that stood as a text
abbrev pub with_id : {P : Type 0} → List ℕ → State P → State P
with_id id s = record { instances = s.instances; ids = s.ids ++ id ∷ []; met = s.met }

-- A text takes the next index. An index is of a text that was read, from 1. A compact id stands as a size, and takes no index.
abbrev pub SpellsId : IdForm → Speller (State (Unit {0})) (List ℕ)
SpellsId no_id = Given []
SpellsId as_text = λ bytes id from to. SpellsTypeId bytes id × (to ≡ with_id id from)
SpellsId as_index = λ bytes id from to. (i : ℕ) × SpellsSize bytes (suc i) × (slice_get from.ids i ≡ Some id) × (to ≡ from)
SpellsId as_number = λ bytes id from to. (n : ℕ) × SpellsSize bytes n × (id ≡ numbered_id n) × (to ≡ from)

-- an index of no text is the fault
abbrev pub id_found : ℕ → Option (List ℕ) → Reader (State ℕ) (List ℕ)
id_found place None s r = fault place BadTypeId
id_found place (Some id) s r = Ok (id, s, r)

-- an index counts from 1
abbrev pub id_indexed : ℕ → ℕ → Reader (State ℕ) (List ℕ)
id_indexed place zero s r = fault place BadTypeId
id_indexed place (suc i) s r = id_found place (slice_get s.ids i) s r

-- reading it
abbrev pub id_at : IdForm → Reader (State ℕ) (List ℕ)
id_at no_id s r = Ok ([], s, r)
id_at as_text s r = type_id_at r >>= λ id. Ok (id.0, with_id id.0 s, id.1)
id_at as_index s r = size_at r >>= λ n. id_indexed r.place n.0 s n.1
id_at as_number s r = size_at r >>= λ n. Ok (numbered_id n.0, s, n.1)

-- ---- the class of a slice, None where it is not known

-- by its id, or without one the base that follows
abbrev pub class_in : Tables → Before → List ℕ → Option ℕ
class_in t first id = class_by_id t id
class_in t only_unknown id = class_by_id t id
class_in t (derived true base) id = class_by_id t id
class_in t (derived false base) id = Some base

-- the known class is this one
abbrev pub same_class : Option ℕ → ℕ → Bool
same_class None class = false
same_class (Some other) class = nat_eq other class

-- behind a class comes its base
abbrev pub is_base : Before → Option ℕ → Bool
is_base first class = true
is_base only_unknown class = true
is_base (derived sized base) class = same_class class base

-- without a size it has to be known
abbrev pub can_be_read : Reach → Option ℕ → Flags → Bool
can_be_read reach None f = is_all reach && f.has_size
can_be_read reach (Some class) f = true

-- both or neither
abbrev pub same_bool : Bool → Bool → Bool
same_bool true b = b
same_bool false b = not b

-- of a known class, the flag of the last slice stands exactly where that has no base
abbrev pub ends_well : Tables → Option ℕ → Flags → Bool
ends_well t None f = true
ends_well t (Some class) f = same_bool f.is_last (is_none (base_of t class))

-- what stands before the next slice
abbrev pub before_base : Bool → Option ℕ → Before
before_base sized None = only_unknown
before_base sized (Some base) = derived sized base

-- by the class of the slice
abbrev pub before_next : Tables → Option ℕ → Flags → Before
before_next t None f = only_unknown
before_next t (Some class) f = before_base f.has_size (base_of t class)
