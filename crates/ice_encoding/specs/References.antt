-- The two ways in which a reference stands, and what reading remembers. (Ice manual, "Data Encoding for Class and Exception Types".)
use Rattle.std.specs.Prelude.{ℕ, zero, suc, ◌≡◌, ◌<◌, ◌⊎◌, Bool, true, false, List, [], ◌∷◌, ◌++◌, length, map, Option, None, Some, Result, Ok, nat_lt, slice_index, if◌then◌else◌}
use Rattle.ice_prims.specs.declared.fault.Fault.{Fault}
use Rattle.ice_prims.specs.declared.fault.Kind.TheVariants.{BadReference, TooMany}
use Rattle.ice_prims.specs.Rest.{fault, ◌>>=◌}
use Rattle.ice_prims.specs.Number.{SpellsSize, size_at}
use Rattle.ice_encoding.specs.Port.{Port, Reader, Speller}
use Rattle.ice_encoding.specs.Pausing.{Met, known, begins, Inside, in_place}
use Rattle.ice_encoding.specs.Graph.{Slice}

-- A reference that is not null: the place of its bytes where that is told, the declared class, and what it names.
pub record Reference (P : Type 0) : Type 0 where
  pub place : P
  pub declared : Option ℕ
  pub name : ℕ

-- a reference to this name
abbrev pub met_at : {P : Type 0} → P → Option ℕ → ℕ → Reference P
met_at place declared name = record { place = place; declared = declared; name = name }

-- the same without its place
abbrev pub unplaced : Reference ℕ → Reference (Unit {0})
unplaced m = met_at tt m.declared m.name

-- ---- in a sized slice: 0 for null, or the place in the slice's table, from 1. What is remembered is the places.

-- a place, with the class that is declared where it stands
abbrev pub SpellsEntry : Bool → Option ℕ → Speller (List (Reference (Unit {0}))) (Option ℕ)
SpellsEntry tabled declared bytes None from to = SpellsSize bytes 0 × (to ≡ from)
SpellsEntry tabled declared bytes (Some n) from to = SpellsSize bytes (suc n) × (tabled ≡ true) × (to ≡ from ++ met_at tt declared n ∷ [])

-- Where there is no table, each place is past its end. Else that is known when the table's size is read.
abbrev pub entry_of : Bool → Option ℕ → ℕ → ℕ → Reader (List (Reference ℕ)) (Option ℕ)
entry_of tabled declared place zero s r = Ok (None, s, r)
entry_of true declared place (suc n) s r = Ok (Some n, s ++ met_at place declared n ∷ [], r)
entry_of false declared place (suc n) s r = fault place BadReference

-- reading an entry: 0 for null, else a place in the table
abbrev pub entry_at : Bool → Option ℕ → Reader (List (Reference ℕ)) (Option ℕ)
entry_at tabled declared s r = size_at r >>= λ n. entry_of tabled declared r.place n.0 s n.1

-- the port in a sized slice, by whether that has a table
abbrev pub in_table : Bool → Port (List (Reference ℕ)) (List (Reference (Unit {0})))
in_table tabled = record { seen = map unplaced; read = entry_at tabled; Spells = SpellsEntry tabled }

-- ---- elsewhere: 0 for null, 1 and the instance where that begins, or the number of one that has begun, from 2

-- The instances that have begun, by number, each without slices until it ends; the type ids that stood as texts; and
-- each reference that was met.
pub record State (P : Type 0) : Type 0 where
  pub instances : List (List Slice)
  pub ids : List (List ℕ)
  pub met : List (Reference P)

-- nothing was read
abbrev pub opening : {P : Type 0} → State P
opening = record { instances = []; ids = []; met = [] }

-- what spelling knows of it
abbrev pub seen : State ℕ → State (Unit {0})
seen s = record { instances = s.instances; ids = s.ids; met = map unplaced s.met }

-- with references more
abbrev pub with_met : {P : Type 0} → List (Reference P) → State P → State P
with_met ms s = record { instances = s.instances; ids = s.ids; met = s.met ++ ms }

-- with one more that has begun
abbrev pub with_begun : {P : Type 0} → State P → State P
with_begun s = record { instances = s.instances ++ [] ∷ []; ids = s.ids; met = s.met }

-- the item at a place is another
abbrev pub replaced : {A : Type 0} → ℕ → A → List A → List A
replaced n x [] = []
replaced zero x (y ∷ ys) = x ∷ ys
replaced (suc n) x (y ∷ ys) = y ∷ replaced n x ys

-- the instance has ended, and these are its slices
abbrev pub with_ended : {P : Type 0} → ℕ → List Slice → State P → State P
with_ended n slices s = record { instances = replaced n slices s.instances; ids = s.ids; met = s.met }

-- with the instance that begins at a reference
abbrev pub beginning : {P : Type 0} → P → Option ℕ → State P → State P
beginning place declared s = with_begun (with_met (met_at place declared (length s.instances) ∷ []) s)

module _ (limit : ℕ) where
  -- ---- spelling, by that of an instance's slices

  -- an instance that begins here
  abbrev pub Begins : Speller (State (Unit {0})) (List Slice) → Option ℕ → List ℕ → ℕ → State (Unit {0}) → State (Unit {0}) → Type 0
  Begins Slices declared bytes n from to = (slices : List Slice) × (one rest : List ℕ) × (end : State (Unit {0})) × (bytes ≡ one ++ rest) × SpellsSize one 1
      × (n ≡ length from.instances) × (nat_lt n limit ≡ true) × Slices rest slices (beginning tt declared from) end × (to ≡ with_ended n slices end)

  -- an instance that has begun
  abbrev pub GoesBack : Option ℕ → List ℕ → ℕ → State (Unit {0}) → State (Unit {0}) → Type 0
  GoesBack declared bytes n from to = SpellsSize bytes (suc (suc n)) × (n < length from.instances) × (to ≡ with_met (met_at tt declared n ∷ []) from)

  -- null, an instance that begins, or one that has begun
  abbrev pub SpellsInline : Speller (State (Unit {0})) (List Slice) → Option ℕ → Speller (State (Unit {0})) (Option ℕ)
  SpellsInline Slices declared bytes None from to = SpellsSize bytes 0 × (to ≡ from)
  SpellsInline Slices declared bytes (Some n) from to = Begins Slices declared bytes n from to ⊎ GoesBack declared bytes n from to

  -- ---- reading: the reference, and the instance where one begins

  -- where there is room for one more
  abbrev pub begun_at : Bool → Option ℕ → ℕ → Reader (State ℕ) Met
  begun_at true declared place s r = Ok (begins (length s.instances), beginning place declared s, r)
  begun_at false declared place s r = fault place TooMany

  -- by the size that was read
  abbrev pub inline_of : Option ℕ → ℕ → ℕ → Reader (State ℕ) Met
  inline_of declared place zero s r = Ok (known None, s, r)
  inline_of declared place (suc zero) s r = begun_at (nat_lt (length s.instances) limit) declared place s r
  inline_of declared place (suc (suc n)) s r = if nat_lt n (length s.instances) then Ok (known (Some n), with_met (met_at place declared n ∷ []) s, r) else fault place BadReference

  -- reading a reference: null, the instance that begins here, or one that has begun
  abbrev pub inline_at : Option ℕ → Reader (State ℕ) Met
  inline_at declared s r = size_at r >>= λ n. inline_of declared r.place n.0 s n.1

  -- the instance of this name, by the reading of its slices
  abbrev pub instance_by : Reader (State ℕ) (List Slice) → Inside (State ℕ)
  instance_by slices n s r = slices s r >>= λ x. Ok (with_ended n x.0 x.1, x.2)

  -- the port elsewhere, by how the slices of an instance stand, of which no more than the limit begin
  abbrev pub inline : Reader (State ℕ) (List Slice) → Speller (State (Unit {0})) (List Slice) → Port (State ℕ) (State (Unit {0}))
  inline slices Slices = record { seen = seen; read = in_place inline_at (instance_by slices); Spells = SpellsInline Slices }

-- ---- the table of a slice: references that are not null, of no declared class

-- what a place in a table names
abbrev pub entry_in : List ℕ → ℕ → ℕ
entry_in table place = slice_index table place

-- references by places, with the names that the table has there
abbrev pub resolved : {P : Type 0} → List ℕ → List (Reference P) → List (Reference P)
resolved table uses = map (λ u. met_at u.place u.declared (entry_in table u.name)) uses

-- each place is within the table
abbrev pub AreWithin : {P : Type 0} → ℕ → List (Reference P) → Type 0
AreWithin limit [] = Unit {0}
AreWithin limit (u ∷ us) = (u.name < limit) × AreWithin limit us

-- each place is in the table, or the first that is past its end is the fault
abbrev pub within : {B : Type 0} → ℕ → List (Reference ℕ) → Result B Fault → Result B Fault
within limit [] next = next
within limit (u ∷ us) next = if nat_lt u.name limit then within limit us next else fault u.place BadReference

-- null is the fault
abbrev pub not_null : {A : Type 0} → ℕ → Option ℕ → (ℕ → Result A Fault) → Result A Fault
not_null place None next = fault place BadReference
not_null place (Some name) next = next name

module _ (port : Port (State ℕ) (State (Unit {0}))) where
  -- so many references, none of them null
  abbrev pub SpellsEntries : ℕ → Speller (State (Unit {0})) (List ℕ)
  SpellsEntries zero bytes names from to = (bytes ≡ []) × (names ≡ []) × (to ≡ from)
  SpellsEntries (suc n) bytes names from to = (name : ℕ) × (others : List ℕ) × (a b : List ℕ) × (mid : State (Unit {0}))
      × (names ≡ name ∷ others) × (bytes ≡ a ++ b) × port.Spells None a (Some name) from mid × SpellsEntries n b others mid to

  -- What the table names; then the references that were places in it are known. Without a table there is none.
  abbrev pub SpellsTable : Bool → List (Reference (Unit {0})) → Speller (State (Unit {0})) (List ℕ)
  SpellsTable false uses bytes table from to = (bytes ≡ []) × (table ≡ []) × (to ≡ from)
  SpellsTable true uses bytes table from to = (n : ℕ) × (front body : List ℕ) × (end : State (Unit {0})) × (bytes ≡ front ++ body) × SpellsSize front n
      × AreWithin n uses × SpellsEntries n body table from end × (to ≡ with_met (resolved table uses) end)

module _ (refer : Option ℕ → Reader (State ℕ) (Option ℕ)) where
  -- so many entries, none of them null
  abbrev pub entries_at : ℕ → Reader (State ℕ) (List ℕ)
  entries_at zero s r = Ok ([], s, r)
  entries_at (suc n) s r = refer None s r >>= λ x. not_null r.place x.0 (λ name. entries_at n x.1 x.2 >>= λ y. Ok (name ∷ y.0, y.1, y.2))

  -- reading a table: the first place that it lacks is `BadReference`, where it stands; else the places are references
  -- to what stands in it
  abbrev pub table_at : Bool → List (Reference ℕ) → Reader (State ℕ) (List ℕ)
  table_at false uses s r = Ok ([], s, r)
  table_at true uses s r = size_at r >>= λ n. within n.0 uses (entries_at n.0 s n.1 >>= λ x. Ok (x.0, with_met (resolved x.0 uses) x.1, x.2))
