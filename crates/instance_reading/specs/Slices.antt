-- A slice that has begun, and what the calls that begin one answer.
use Rattle.std.specs.Prelude.{ℕ, suc, ◌≡◌, ◌+◌, Bool, true, false, List, [], ◌∷◌, ◌++◌, Option, None, Some, Result, Ok, Err, nat_lt, if◌then◌else◌}
use Rattle.ice_types.specs.Tables.{Tables}
use Rattle.ice_prims.specs.declared.fault.Fault.{Fault}
use Rattle.ice_prims.specs.declared.fault.ReadFault.{ReadFault}
use Rattle.ice_prims.specs.Rest.{Rest, ◌>>=◌}
use Rattle.ice_prims.specs.Taking.{Fails}
use Rattle.ice_encoding.specs.Port.{Reader}
use Rattle.ice_encoding.specs.Pausing.{Inside, in_place}
use Rattle.ice_encoding.specs.Reading.{made}
use Rattle.ice_encoding.specs.Steps.{followed, given}
use Rattle.ice_encoding.specs.Prefixes.{prefixed}
use Rattle.ice_encoding.specs.OptionalMembers.{slice_members_at}
use Rattle.ice_encoding.specs.OptionalMembers as defs
use Rattle.ice_encoding.specs.Classes.{own_members}
use Rattle.ice_encoding.specs.Graph.{known, unknown}
use Rattle.ice_encoding.specs.Graph as graphs
use Rattle.ice_encoding.specs.Flags.{Flags, all_slices}
use Rattle.ice_encoding.specs.Flags as flags
use Rattle.ice_encoding.specs.TypeIds.{can_be_read}
use Rattle.ice_encoding.specs.Instances.{most_instances}
use Rattle.ice_encoding.specs.References.{State, inline_at, entry_at, entries_at, table_at, resolved, with_met}
use Rattle.ice_encoding.specs.References as refs
use Rattle.ice_encoding.specs.Slices.{slice_size, by_table, one_more, body_at}
use Rattle.graph_arena.specs.Seen.{view_content}
use Rattle.ice_values.specs.Unread.{left_of_members}
use Rattle.value_parts.specs.SlicedType.{own_fields, rows_of}
use Rattle.value_parts.specs.declared.sliced_type.SlicedType.{SlicedType}
use Rattle.value_parts.specs.SliceIds.{id_of}
use Rattle.slice_heads.specs.Seen.{view_before, view_next, view_references}
use Rattle.slice_heads.specs.Sorts.{behind_slice, slices_by, slices_from}
use Rattle.instance_reading.specs.declared.sized.SizedMembers.{SizedMembers}
use Rattle.instance_reading.specs.declared.sized.Body.{Body}
use Rattle.instance_reading.specs.declared.sized.Body.TheVariants as bodies
use Rattle.instance_reading.specs.declared.sized.OpenSlice.{OpenSlice}
use Rattle.instance_reading.specs.declared.slice.CompactSlice.{CompactSlice}
use Rattle.instance_reading.specs.declared.slice.Stage.{Stage}
use Rattle.instance_reading.specs.declared.slice.Stage.TheVariants as stages

-- ---- what is still read

-- what stands in a slice before its table: members with places in it, or what is kept
pub data Front : Type 0 where
  members_of : ℕ → defs.Members → List (refs.Reference ℕ) → Front
  bytes_of : List ℕ → List ℕ → Bool → Front

abbrev pub view_body : Body → Front
view_body (bodies.Members class content uses) = members_of class (view_content content) (view_references uses.items)
view_body (bodies.Unknown id part) = bytes_of (id_of id) part.bytes.now part.optionals

-- the slice with its table
abbrev pub slice_with : Front → List ℕ → graphs.Slice
slice_with (members_of class content uses) table = by_table class content table
slice_with (bytes_of id bytes optionals) table = unknown id bytes optionals table

-- the places that were met before it
abbrev pub uses_of : Front → List (refs.Reference ℕ)
uses_of (members_of class content uses) = uses
uses_of (bytes_of id bytes optionals) = []

-- a slice whose table is being read, without where it lies in memory
pub record Open : Type 0 where
  pub front : Front
  pub next : Option flags.Before
  pub table : List ℕ
  pub left : ℕ

abbrev pub opened : OpenSlice → Open
opened o = record { front = view_body o.body; next = view_next o.next; table = o.table; left = o.left }

-- the slice, when these further entries of its table are read
abbrev pub with_entries : Open → List ℕ × State ℕ × Rest → Result (graphs.Slice × State ℕ × Rest) Fault
with_entries o x = let table = o.table ++ x.0 in Ok (slice_with o.front table, with_met (resolved table (uses_of o.front)) x.1, x.2)

module _ (refer : Option ℕ → Reader (State ℕ) (Option ℕ)) where
  -- the entries that are left, and the slice
  abbrev pub left_table : Open → Reader (State ℕ) graphs.Slice
  left_table o s r = entries_at refer o.left s r >>= with_entries o

  module _ (sort : SlicedType) (t : Tables) (steps : ℕ) where
    -- the slices that follow
    abbrev pub left_next : Option flags.Before → Reader (State ℕ) (List graphs.Slice)
    left_next None = given []
    left_next (Some before) = slices_from refer sort t steps before

    -- what is still read of the slice
    abbrev pub left_open : Open → Reader (State ℕ) (List graphs.Slice)
    left_open o = followed (left_table o) (λ slice. made (one_more slice) (left_next o.next))

    -- what is read behind the tests of a class
    abbrev pub behind_tests : Flags → Option ℕ → List ℕ → Reader (State ℕ) (List graphs.Slice)
    behind_tests f class id = followed (body_at refer (rows_of sort t) f id f.has_size class) (λ slice. made (one_more slice) (left_next (behind_slice (rows_of sort t) class f)))

-- a reference, with the instance that begins at it
abbrev pub refer_by : Inside (State ℕ) → Option ℕ → Reader (State ℕ) (Option ℕ)
refer_by inside = in_place (inline_at most_instances) inside

module _ (inside : Inside (State ℕ)) (sort : SlicedType) (t : Tables) where
  -- the slice without a size, when the rest of its members is read
  unfoldable pub left_members : CompactSlice → Reader (State ℕ) graphs.Slice
  left_members c = made (known c.class) (left_of_members (inline_at most_instances) t inside (own_fields (rows_of sort t) c.class) c.members)

  -- what is still read of a slice without a size and of those that follow
  abbrev pub left_compact : ℕ → CompactSlice → Reader (State ℕ) (List graphs.Slice)
  left_compact steps c = followed (left_members c) (λ slice. made (one_more slice) (left_next (refer_by inside) sort t steps (view_next c.next)))

  -- the same of any stage of an instance
  abbrev pub left_stage : ℕ → Stage → Reader (State ℕ) (List graphs.Slice)
  left_stage steps (stages.Next before) = slices_from (refer_by inside) sort t steps (view_before before)
  left_stage steps (stages.Open o) = left_open (refer_by inside) sort t steps (opened o)
  left_stage steps (stages.Compact c) = left_compact steps c.value
  left_stage steps stages.Over = given []

-- entries of the table, and then slices
abbrev pub stage_work : Stage → ℕ
stage_work (stages.Next before) = 0
stage_work (stages.Open o) = 1 + o.left
stage_work (stages.Compact c) = 1
stage_work stages.Over = 0

-- ---- what calls answer

-- without a table nothing is met
abbrev pub uses_in : Bool → List (refs.Reference ℕ) → Type 0
uses_in true uses = Unit {0}
uses_in false uses = uses ≡ []

-- the members of a class in a slice, with places as references
abbrev pub ReadsUses : Bool → Result SizedMembers ReadFault → Result (defs.Members × List (refs.Reference ℕ) × Rest) Fault → Rest → Type 0
ReadsUses tabled (Ok x) read r' = (read ≡ Ok (view_content x.members, view_references x.uses.items, r')) × uses_in tabled (view_references x.uses.items)
ReadsUses tabled (Err e) read r' = Fails e read

abbrev pub ReadsPlaces : SlicedType → Tables → ℕ → Bool → Bool → Result SizedMembers ReadFault → Rest → Rest → Type 0
ReadsPlaces sort t class tabled flagged result r r' = let rows = rows_of sort t in
    ReadsUses tabled result (slice_members_at (entry_at tabled) rows flagged (own_members rows class) [] r) r'

-- the size of a slice, and its members with places as references
abbrev pub ReadsSized : SlicedType → Tables → ℕ → Bool → Bool → Result SizedMembers ReadFault → Rest → Rest → Type 0
ReadsSized sort t class tabled flagged result r r' = let rows = rows_of sort t in
    ReadsUses tabled result (prefixed slice_size (slice_members_at (entry_at tabled) rows flagged (own_members rows class)) [] r) r'

-- the place of the first reference that is not within a table of so many entries
abbrev pub first_outside : ℕ → List (refs.Reference ℕ) → Option ℕ
first_outside limit [] = None
first_outside limit (u ∷ us) = if nat_lt u.name limit then first_outside limit us else Some u.place

-- how many entries the table of a slice has; each place that was met is among them
abbrev pub SeesTable : Bool → List (refs.Reference ℕ) → Result ℕ Fault → Rest → Rest → Type 0
SeesTable tabled uses (Ok n) r r' = (refer : Option ℕ → Reader (State ℕ) (Option ℕ)) (s : State ℕ) → uses_in tabled uses
    → table_at refer tabled uses s r ≡ (entries_at refer n s r' >>= λ x. Ok (x.0, with_met (resolved x.0 uses) x.1, x.2))
SeesTable tabled uses (Err e) r r' = (refer : Option ℕ → Reader (State ℕ) (Option ℕ)) (s : State ℕ) → table_at refer tabled uses s r ≡ Err e

-- the same behind the type id of a class that passed the tests
abbrev pub OpensSized : SlicedType → Tables → Flags → ℕ → Result OpenSlice ReadFault → Rest → Rest → Type 0
OpensSized sort t f class (Ok o) r r' = (refer : Option ℕ → Reader (State ℕ) (Option ℕ)) (steps : ℕ) (id : List ℕ) (s : State ℕ) → f.has_size ≡ true
    → behind_tests refer sort t steps f (Some class) id s r ≡ left_open refer sort t steps (opened o) s r'
OpensSized sort t f class (Err e) r r' = (refer : Option ℕ → Reader (State ℕ) (Option ℕ)) (steps : ℕ) (id : List ℕ) (s : State ℕ) → f.has_size ≡ true
    → Fails e (behind_tests refer sort t steps f (Some class) id s r)

-- the same of a class that is not known
abbrev pub OpensUnknown : List ℕ → Flags → Result OpenSlice Fault → Rest → Rest → Type 0
OpensUnknown id f (Ok o) r r' = (refer : Option ℕ → Reader (State ℕ) (Option ℕ)) (sort : SlicedType) (t : Tables) (steps : ℕ) (s : State ℕ) → f.has_size ≡ true
    → behind_tests refer sort t steps f None id s r ≡ left_open refer sort t steps (opened o) s r'
OpensUnknown id f (Err e) r r' = (refer : Option ℕ → Reader (State ℕ) (Option ℕ)) (sort : SlicedType) (t : Tables) (steps : ℕ) (s : State ℕ) → f.has_size ≡ true
    → behind_tests refer sort t steps f None id s r ≡ Err e

-- the same of a known class, with a size or without
abbrev pub OpensKnown : SlicedType → Tables → Flags → ℕ → Result Stage ReadFault → Rest → Rest → Type 0
OpensKnown sort t f class (Ok stage) r r' = (inside : Inside (State ℕ)) (steps : ℕ) (id : List ℕ) (s : State ℕ)
    → behind_tests (refer_by inside) sort t steps f (Some class) id s r ≡ left_stage inside sort t steps stage s r'
OpensKnown sort t f class (Err e) r r' = (inside : Inside (State ℕ)) (steps : ℕ) (id : List ℕ) (s : State ℕ) → Fails e (behind_tests (refer_by inside) sort t steps f (Some class) id s r)

-- the same of a class that can be read
abbrev pub OpensSlice : SlicedType → Tables → Flags → Option ℕ → List ℕ → Result Stage ReadFault → Rest → Rest → Type 0
OpensSlice sort t f class id (Ok stage) r r' = (inside : Inside (State ℕ)) (steps : ℕ) (s : State ℕ) → can_be_read all_slices class f ≡ true
    → behind_tests (refer_by inside) sort t steps f class id s r ≡ left_stage inside sort t steps stage s r'
OpensSlice sort t f class id (Err e) r r' = (inside : Inside (State ℕ)) (steps : ℕ) (s : State ℕ) → can_be_read all_slices class f ≡ true
    → Fails e (behind_tests (refer_by inside) sort t steps f class id s r)

-- a slice has begun, up to the entries of its table or, where it has no size, up to its members
abbrev pub BeginsSlice : SlicedType → Tables → flags.Before → Result Stage ReadFault → State ℕ → Rest → State ℕ → Rest → Type 0
BeginsSlice sort t before (Ok stage) s r s' r' = (inside : Inside (State ℕ)) (steps : ℕ)
    → slices_by (refer_by inside) sort t (suc steps) before s r ≡ left_stage inside sort t steps stage s' r'
BeginsSlice sort t before (Err e) s r s' r' = (inside : Inside (State ℕ)) (steps : ℕ) → Fails e (slices_by (refer_by inside) sort t (suc steps) before s r)
