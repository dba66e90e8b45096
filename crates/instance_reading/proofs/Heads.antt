-- What is still read of an instance once the head of a slice is read: its flags, type id, members and the size of its table.
use Rattle.std.proofs.Common.{ℕ, suc, ◌≡◌, Bool, true, false, is_none, List, [], ◌∷◌, Option, None, Some, Result, Ok, Err, refl, sym, ap, ◌∙◌}
use Rattle.ice_types.specs.declared.declarations.Shape.{Shape}
use Rattle.ice_types.specs.Tables.{Tables}
use Rattle.ice_prims.specs.declared.fault.Fault.{Fault}
use Rattle.ice_prims.specs.declared.fault.ReadFault.{ReadFault}
use Rattle.ice_prims.specs.declared.fault.ReadFault.TheVariants as faults
use Rattle.ice_prims.specs.Rest.{Rest, ◌>>=◌}
use Rattle.ice_prims.specs.Taking.{Fails}
use Rattle.ice_encoding.specs.Port.{Reader}
use Rattle.ice_encoding.specs.Pausing.{Inside}
use Rattle.ice_encoding.specs.Reading.{made}
use Rattle.ice_prims.specs.declared.fault.Kind.TheVariants.{WrongBase, UnknownClass, BadLast}
use Rattle.ice_encoding.specs.Steps.{followed, tested}
use Rattle.ice_encoding.specs.Prefixes.{prefixed}
use Rattle.ice_encoding.specs.OptionalMembers.{Members, slice_members_at}
use Rattle.ice_encoding.specs.Classes.{own_members, base_of}
use Rattle.ice_encoding.specs.Graph.{Slice, known}
use Rattle.ice_encoding.specs.Exceptions.{of_exceptions, is_known_last, unless_ended, behind_user_exception, user_exception_slices}
use Rattle.ice_encoding.specs.Flags.{Flags, Before, only_unknown, all_slices, flags_at}
use Rattle.ice_encoding.specs.TypeIds.{is_base, can_be_read, same_bool, before_base, before_next}
use Rattle.ice_encoding.specs.Instances.{most_instances}
use Rattle.ice_encoding.specs.References.{State, Reference, inline_at, entry_at, entries_at, table_at, resolved, with_met}
use Rattle.ice_encoding.specs.Slices.{slice_size, unknown_at, one_more, body_at, next_slices, from_id, slices_at}
use Rattle.value_parts.specs.declared.fields.Optionals.{Optionals}
use Rattle.ice_values.specs.Advancing.{fresh_members}
use Rattle.value_parts.specs.Shapes.{told_apart}
use Rattle.ice_values.specs.Unread.{left_of_members}
use Rattle.ice_values.proofs.Stages.{left-slice, left-bare}
use Rattle.value_parts.specs.SlicedType.{own_fields, rows_of}
use Rattle.value_parts.specs.declared.sliced_type.SlicedType.{SlicedType}
use Rattle.value_parts.specs.declared.sliced_type.SlicedType.TheVariants as sorts
use Rattle.slice_heads.specs.Seen.{by_flag, view_next}
use Rattle.instance_reading.specs.Slices.{Front, members_of, bytes_of, slice_with, uses_of, Open, refer_by, left_table, left_next, left_open, left_members, left_compact, behind_tests, OpensKnown, OpensSlice, BeginsSlice}
use Rattle.slice_heads.specs.Sorts.{may_begin, id_by, class_by, ends_by, is_over, behind_base, behind_unknown, behind_slice, port_by, unless_over, slices_by}
use Rattle.slice_heads.specs.declared.before.Before as code
use Rattle.instance_reading.specs.declared.slice.CompactSlice.{CompactSlice}
use Rattle.instance_reading.specs.declared.slice.Stage.{Stage}
use Rattle.instance_reading.proofs.Places.{rows_read, fault_along}

-- a fault goes on through what comes behind
pub fails_then : {A B : Type 0} (e : ReadFault) (read : Result A Fault) (next : A → Result B Fault) → Fails e read → Fails e (read >>= next)
fails_then faults.Memory read next h = tt
fails_then (faults.Broken f) read next h = rw h refl

-- ---- what follows a slice

module _ (refer : Option ℕ → Reader (State ℕ) (Option ℕ)) (t : Tables) (steps : ℕ) where
  abbrev user_exception_from : Before → Reader (State ℕ) (List Slice)
  user_exception_from = user_exception_slices (port_by refer) (of_exceptions t) all_slices steps

  abbrev others : SlicedType → Flags → Option ℕ → Reader (State ℕ) (List Slice)
  others sorts.Class f class = next_slices refer t (slices_at refer t all_slices steps) f.is_last (before_next t class f)
  others sorts.Exception f class = behind_user_exception (user_exception_from (before_next (of_exceptions t) class f)) (is_known_last (of_exceptions t) class f) class

  unknown_class : (last : Bool) → next_slices refer t (slices_at refer t all_slices steps) last only_unknown ≡ left_next refer sorts.Class t steps (behind_unknown last)
  unknown_class true = refl
  unknown_class false = refl

  known_class : (sized last : Bool) (base : Option ℕ) → same_bool last (is_none base) ≡ true → next_slices refer t (slices_at refer t all_slices steps) last (before_base sized base) ≡ left_next refer sorts.Class t steps (behind_base sized base)
  known_class sized true None ends = refl
  known_class sized false None ends = absurd cc
  known_class sized true (Some base) ends = absurd cc
  known_class sized false (Some base) ends = refl

  unless_same : (next : Reader (State ℕ) (List Slice)) (bytes : List ℕ) → unless_ended next bytes ≡ unless_over refer (is_over sorts.Exception only_unknown bytes) next
  unless_same next [] = refl
  unless_same next (b ∷ bs) = refl

  unknown_exception : (last : Bool) → behind_user_exception (user_exception_from only_unknown) last None ≡ left_next refer sorts.Exception t steps (behind_unknown last)
  unknown_exception true = refl
  unknown_exception false = λ i s r. unless_same (user_exception_from only_unknown) r.bytes i s r

  known_exception : (sized : Bool) (class : ℕ) (base : Option ℕ) → behind_user_exception (user_exception_from (before_base sized base)) (is_none base) (Some class) ≡ left_next refer sorts.Exception t steps (behind_base sized base)
  known_exception sized class None = refl
  known_exception sized class (Some base) = refl

  same_others : (sort : SlicedType) (f : Flags) (class : Option ℕ) → ends_by sort (rows_of sort t) class f ≡ true → others sort f class ≡ left_next refer sort t steps (behind_slice (rows_of sort t) class f)
  same_others sorts.Class f None ends = unknown_class f.is_last
  same_others sorts.Class f (Some class) ends = known_class f.has_size f.is_last (base_of t class) ends
  same_others sorts.Exception f None ends = unknown_exception f.is_last
  same_others sorts.Exception f (Some class) ends = known_exception f.has_size class (base_of (of_exceptions t) class)

  -- ---- from the tests on

  abbrev pub from_class : SlicedType → Before → Flags → ℕ → ℕ → List ℕ → Option ℕ → Reader (State ℕ) (List Slice)
  from_class sort before f flags_place id_place id class = from_id refer (rows_of sort t) all_slices (others sort f class) (ends_by sort (rows_of sort t) class f) before f flags_place id_place id class

  abbrev pub behind_id : SlicedType → Before → Flags → ℕ → ℕ → List ℕ × State ℕ × Rest → Result (List Slice × State ℕ × Rest) Fault
  behind_id sort before f flags_place id_place x = from_class sort before f flags_place id_place x.0 (class_by sort (rows_of sort t) before x.0) x.1 x.2

  -- the flags are read
  pub flags_read : (sort : SlicedType) (before : Before) (f : Flags) (s : State ℕ) (r after : Rest) → flags_at (may_begin sort before) r ≡ Ok (f, after)
      → slices_by refer sort t (suc steps) before s r ≡ (id_by sort f.id s after >>= behind_id sort before f r.place after.place)
  flags_read sorts.Class before f s r after is = rw is refl
  flags_read sorts.Exception before f s r after is = rw is refl

  pub flags_refused : (sort : SlicedType) (before : Before) (s : State ℕ) (r : Rest) (e : Fault) → flags_at (may_begin sort before) r ≡ Err e → slices_by refer sort t (suc steps) before s r ≡ Err e
  flags_refused sorts.Class before s r e is = rw is refl
  flags_refused sorts.Exception before s r e is = rw is refl

  -- the type id is refused
  pub id_refused : (sort : SlicedType) (before : Before) (f : Flags) (s : State ℕ) (r mid : Rest) (e : ReadFault) → flags_at (may_begin sort before) r ≡ Ok (f, mid) → Fails e (id_by sort f.id s mid)
      → Fails e (slices_by refer sort t (suc steps) before s r)
  id_refused sort before f s r mid e flags h =
      fault_along e _ _ (sym (flags_read sort before f s r mid flags)) (fails_then e (id_by sort f.id s mid) (behind_id sort before f r.place mid.place) h)

  -- the type id is read
  pub id_read : (sort : SlicedType) (before : Before) (f : Flags) (id : List ℕ) (class : Option ℕ) (s s' : State ℕ) (r mid behind : Rest) → flags_at (may_begin sort before) r ≡ Ok (f, mid)
      → id_by sort f.id s mid ≡ Ok (id, s', behind) → class_by sort (rows_of sort t) before id ≡ class
      → slices_by refer sort t (suc steps) before s r ≡ from_class sort before f r.place mid.place id class s' behind
  id_read sort before f id class s s' r mid behind flags is_id named =
      flags_read sort before f s r mid flags
      ∙ ap (λ (x : Result (List ℕ × State ℕ × Rest) Fault). x >>= behind_id sort before f r.place mid.place) is_id
      ∙ ap (λ (c : Option ℕ). from_class sort before f r.place mid.place id c s' behind) named

  pub class_refused : (sort : SlicedType) (before : Before) (f : Flags) (id : List ℕ) (class : Option ℕ) (s s' : State ℕ) (r mid behind : Rest) (e : Fault) → flags_at (may_begin sort before) r ≡ Ok (f, mid)
      → id_by sort f.id s mid ≡ Ok (id, s', behind) → class_by sort (rows_of sort t) before id ≡ class
      → ((read : Reader (State ℕ) (List Slice)) (now : State ℕ) (left : Rest) → tested (is_base before class) mid.place WrongBase (tested (can_be_read all_slices class f) mid.place UnknownClass
      (tested (ends_by sort (rows_of sort t) class f) r.place BadLast read)) now left ≡ Err e)
      → slices_by refer sort t (suc steps) before s r ≡ Err e
  class_refused sort before f id class s s' r mid behind e flags is_id named fails = id_read sort before f id class s s' r mid behind flags is_id named ∙ fails _ s' behind

  pub tests_passed : (sort : SlicedType) (before : Before) (f : Flags) (flags_place id_place : ℕ) (id : List ℕ) (class : Option ℕ) (s : State ℕ) (r : Rest) → is_base before class ≡ true → can_be_read all_slices class f ≡ true
      → ends_by sort (rows_of sort t) class f ≡ true → from_class sort before f flags_place id_place id class s r ≡ behind_tests refer sort t steps f class id s r
  tests_passed sort before f flags_place id_place id class s r base readable ends =
      rw (base, readable, ends)
      (ap (λ (next : Reader (State ℕ) (List Slice)). followed (body_at refer (rows_of sort t) f id f.has_size class) (λ slice. made (one_more slice) next) s r) (same_others sort f class ends))

  -- ---- what stands before the table of a slice is read, and the size of the table

  module _ (front : Front) (next : Option Before) (left : ℕ) (s : State ℕ) (after : Rest) where
    abbrev opening : Open
    opening = record { front = front; next = next; table = []; left = left }

    abbrev entries : Result (List ℕ × State ℕ × Rest) Fault
    entries = entries_at refer left s after >>= λ x. Ok (x.0, with_met (resolved x.0 (uses_of front)) x.1, x.2)

    abbrev by_entries : Result (List ℕ × State ℕ × Rest) Fault → Result (Slice × State ℕ × Rest) Fault
    by_entries read = read >>= λ x. Ok (slice_with front x.0, x.1, x.2)

    entries_are : (read : Result (List ℕ × State ℕ × Rest) Fault) → by_entries (read >>= λ x. Ok (x.0, with_met (resolved x.0 (uses_of front)) x.1, x.2)) ≡ (read >>= λ x. Ok (slice_with front x.0, with_met (resolved x.0 (uses_of front)) x.1, x.2))
    entries_are (Ok x) = refl
    entries_are (Err e) = refl

    slice_opened : (sort : SlicedType) (f : Flags) (class : Option ℕ) (id : List ℕ) (r : Rest) → next ≡ behind_slice (rows_of sort t) class f → body_at refer (rows_of sort t) f id f.has_size class s r ≡ by_entries entries
        → behind_tests refer sort t steps f class id s r ≡ left_open refer sort t steps opening s after
    slice_opened sort f class id r follows body_is =
        ap (λ (read : Result (Slice × State ℕ × Rest) Fault). read >>= λ x. made (one_more x.0) (left_next refer sort t steps (behind_slice (rows_of sort t) class f)) x.1 x.2) (body_is ∙ entries_are (entries_at refer left s after))
        ∙ ap (λ (n : Option Before). left_table refer opening s after >>= λ x. made (one_more x.0) (left_next refer sort t steps n) x.1 x.2) (sym follows)

  module _ (sort : SlicedType) (f : Flags) (sized : f.has_size ≡ true) (id : List ℕ) (next : Option Before) (left : ℕ) (s : State ℕ) (r mid after : Rest) where
    -- members of a class
    pub members_opened : (class : ℕ) (content : Members) (uses : List (Reference ℕ)) → next ≡ behind_base true (base_of (rows_of sort t) class)
        → prefixed slice_size (slice_members_at (entry_at f.has_table) (rows_of sort t) f.has_optional (own_members (rows_of sort t) class)) [] r ≡ Ok (content, uses, mid)
        → table_at refer f.has_table uses s mid ≡ entries (members_of class content uses) next left s after
        → behind_tests refer sort t steps f (Some class) id s r ≡ left_open refer sort t steps (opening (members_of class content uses) next left s after) s after
    members_opened class content uses follows members table =
        slice_opened (members_of class content uses) next left s after sort f (Some class) id r (follows ∙ ap (λ (b : Bool). behind_base b (base_of (rows_of sort t) class)) (sym sized))
        (rw (sized, members) (ap (by_entries (members_of class content uses) next left s after) table))

    -- what is kept
    pub unknown_opened : (bytes : List ℕ) (optionals : Bool) → optionals ≡ f.has_optional → next ≡ behind_unknown f.is_last → unknown_at f.has_optional r ≡ Ok (bytes, mid)
        → table_at refer f.has_table [] s mid ≡ entries (bytes_of id bytes f.has_optional) next left s after
        → behind_tests refer sort t steps f None id s r ≡ left_open refer sort t steps (opening (bytes_of id bytes optionals) next left s after) s after
    unknown_opened bytes optionals is follows keeps table =
        slice_opened (bytes_of id bytes f.has_optional) next left s after sort f None id r follows
        (rw (sized, keeps) (ap (by_entries (bytes_of id bytes f.has_optional) next left s after) table))
        ∙ ap (λ (b : Bool). left_open refer sort t steps (opening (bytes_of id bytes b) next left s after) s after) (sym is)

-- ---- a slice without a size begins with its members

module _ (inside : Inside (State ℕ)) (sort : SlicedType) (t : Tables) where
  fresh_read : (flagged : Bool) (shape : Shape) (s : State ℕ) (r : Rest)
      → slice_members_at (refer_by inside) t flagged (told_apart shape) s r ≡ left_of_members (inline_at most_instances) t inside shape (fresh_members (by_flag flagged)) s r
  fresh_read true shape s r = left-slice (inline_at most_instances) t inside shape s r
  fresh_read false shape s r = left-bare (inline_at most_instances) t inside shape s r

  all_members : (flagged : Bool) (shape : Shape) (s : State ℕ) (r : Rest)
      → slice_members_at (refer_by inside) (rows_of sort t) flagged (told_apart shape) s r ≡ left_of_members (inline_at most_instances) t inside shape (fresh_members (by_flag flagged)) s r
  all_members flagged shape s r = (λ i. rows_read (refer_by inside) sort t flagged (told_apart shape) i s r) ∙ fresh_read flagged shape s r

  module _ (steps : ℕ) (f : Flags) (class : ℕ) (next : Option code.Before) where
    abbrev as_slice : Members × State ℕ × Rest → Result (Slice × State ℕ × Rest) Fault
    as_slice x = Ok (known class x.0, x.1, x.2)

    abbrev and_next : Option Before → Slice × State ℕ × Rest → Result (List Slice × State ℕ × Rest) Fault
    and_next behind x = made (one_more x.0) (left_next (refer_by inside) sort t steps behind) x.1 x.2

    abbrev and_others : Slice × State ℕ × Rest → Result (List Slice × State ℕ × Rest) Fault
    and_others = and_next (behind_slice (rows_of sort t) (Some class) f)

    abbrev compact : Optionals → CompactSlice
    compact o = record { class = class; next = next; members = fresh_members o }

    pub compact_opened : (o : Optionals) (id : List ℕ) (s : State ℕ) (r : Rest) → o ≡ by_flag f.has_optional → f.has_size ≡ false → view_next next ≡ behind_base false (base_of (rows_of sort t) class)
        → behind_tests (refer_by inside) sort t steps f (Some class) id s r ≡ left_compact inside sort t steps (compact o) s r
    unfolding left_members
    compact_opened o id s r is unsized follows =
        ap (λ (b : Bool). body_at (refer_by inside) (rows_of sort t) f id b (Some class) s r >>= and_others) unsized
        ∙ ap (λ (read : Result (Members × State ℕ × Rest) Fault). read >>= as_slice >>= and_others) (all_members f.has_optional (own_fields (rows_of sort t) class) s r)
        ∙ ap (λ (o : Optionals). left_of_members (inline_at most_instances) t inside (own_fields (rows_of sort t) class) (fresh_members o) s r >>= as_slice >>= and_others) (sym is)
        ∙ ap (λ (b : Bool). left_members inside sort t (compact o) s r >>= and_next (behind_base b (base_of (rows_of sort t) class))) unsized
        ∙ ap (λ (n : Option Before). left_members inside sort t (compact o) s r >>= and_next n) (sym follows)

-- ---- a slice from its flags on

module _ (sort : SlicedType) (t : Tables) (before : Before) (f : Flags) (id : List ℕ) (class : Option ℕ) (s s' : State ℕ) (r mid behind after : Rest) (flags : flags_at (may_begin sort before) r ≡ Ok (f, mid))
    (is_id : id_by sort f.id s mid ≡ Ok (id, s', behind)) (named : class_by sort (rows_of sort t) before id ≡ class) (base : is_base before class ≡ true) (readable : can_be_read all_slices class f ≡ true)
    (ends : ends_by sort (rows_of sort t) class f ≡ true) where
  begun : (refer : Option ℕ → Reader (State ℕ) (Option ℕ)) (steps : ℕ) → slices_by refer sort t (suc steps) before s r ≡ behind_tests refer sort t steps f class id s' behind
  begun refer steps =
      id_read refer t steps sort before f id class s s' r mid behind flags is_id named
      ∙ tests_passed refer t steps sort before f r.place mid.place id class s' behind base readable ends

  pub begins_from : (result : Result Stage ReadFault) → OpensSlice sort t f class id result behind after → BeginsSlice sort t before result s r s' after
  begins_from (Ok stage) h = λ inside steps. begun (refer_by inside) steps ∙ h inside steps s' readable
  begins_from (Err e) h = λ inside steps. fault_along e _ _ (sym (begun (refer_by inside) steps)) (h inside steps s' readable)

-- a known class, with a size or without
pub opens_known : (sort : SlicedType) (t : Tables) (f : Flags) (class : ℕ) (id : List ℕ) (result : Result Stage ReadFault) (r after : Rest) → OpensKnown sort t f class result r after
    → OpensSlice sort t f (Some class) id result r after
opens_known sort t f class id (Ok stage) r after h = λ inside steps s readable. h inside steps id s
opens_known sort t f class id (Err e) r after h = λ inside steps s readable. h inside steps id s
