-- How what is still read of an instance changes with a step.
use Rattle.std.proofs.Common.{ℕ, zero, suc, ◌≡◌, ◌-◌, ◌<◌, List, [], ◌∷◌, ◌++◌, Bool, true, false, Option, None, Some, Result, Ok, Err, refl, sym, ap, subst, ◌∙◌, append-nil, arith}
use Rattle.std.proofs.lemmas.List.{append_assoc}
use Rattle.std.specs.declared.boxed.Box.{Box}
use Rattle.std.specs.declared.alloc.Global.{Global}
use Rattle.ice_types.specs.Tables.{Tables}
use Rattle.ice_prims.specs.declared.fault.Fault.{Fault}
use Rattle.ice_prims.specs.declared.fault.Kind.TheVariants.{BadReference, Short}
use Rattle.ice_prims.specs.declared.fault.ReadFault.{ReadFault}
use Rattle.ice_prims.specs.Rest.{Rest, fault, ◌>>=◌}
use Rattle.ice_prims.specs.Taking.{Fails}
use Rattle.ice_encoding.specs.Port.{Reader}
use Rattle.ice_encoding.specs.Pausing.{Inside, begins, met}
use Rattle.ice_encoding.specs.Pausing as pausing
use Rattle.ice_encoding.specs.Reading.{made}
use Rattle.ice_types.specs.declared.declarations.Shape.{Shape}
use Rattle.ice_encoding.specs.OptionalMembers.{Members}
use Rattle.ice_encoding.specs.Graph.{Slice, known}
use Rattle.ice_encoding.specs.Flags.{Before}
use Rattle.ice_encoding.specs.Instances.{most_instances}
use Rattle.ice_encoding.specs.References.{State, inline_at, entries_at, not_null, resolved, with_met}
use Rattle.ice_encoding.specs.Slices.{one_more}
use Rattle.graph_arena.specs.declared.instance.Members as stored_members
use Rattle.graph_arena.specs.declared.instance.Slice as stored
use Rattle.graph_arena.specs.declared.instance.Slice.TheVariants.{Known}
use Rattle.graph_arena.specs.Seen.{view_content, view_slice, view_slices}
use Rattle.ice_values.specs.declared.members_reader.MembersReader.{MembersReader}
use Rattle.value_parts.specs.declared.paused.Step.{Step}
use Rattle.ice_values.specs.Unread.{left_of_members}
use Rattle.value_parts.specs.SlicedType.{own_fields, rows_of}
use Rattle.value_parts.specs.declared.sliced_type.SlicedType.{SlicedType}
use Rattle.value_parts.specs.declared.sliced_type.SlicedType.TheVariants as sorts
use Rattle.slice_heads.specs.declared.before.Before as code
use Rattle.instance_reading.specs.declared.slice.CompactSlice.{CompactSlice}
use Rattle.slice_heads.specs.Seen.{view_before, view_next}
use Rattle.instance_reading.specs.Slices.{Open, BeginsSlice, refer_by, opened, slice_with, uses_of, view_body, with_entries, left_table, left_next, left_open, left_members, left_compact, left_stage}
use Rattle.slice_heads.specs.Sorts.{is_over, unless_over, slices_by}
use Rattle.instance_reading.specs.declared.sized.OpenSlice.{OpenSlice}
use Rattle.instance_reading.specs.declared.slice.Stage.{Stage}
use Rattle.instance_reading.specs.declared.slice.Stage.TheVariants as stages
use Rattle.instance_reading.specs.declared.unfinished.Unfinished.{Unfinished}
use Rattle.instance_reading.specs.Unfinished.{behind, left_behind, left_by, left_slices, Keeps, Pauses, Advances}
use Rattle.instance_reading.proofs.Heads.{fails_then}
use Rattle.instance_reading.proofs.Places.{fault_along}

-- ---- a slice begins

module _ (inside : Inside (State ℕ)) (sort : SlicedType) (t : Tables) where
  slice_begins : (steps : ℕ) (before : Before) (stage : Stage) (s s' : State ℕ) (r after : Rest) → (steps ≡ 0 → ⊥) → BeginsSlice sort t before (Ok stage) s r s' after
      → slices_by (refer_by inside) sort t steps before s r ≡ left_stage inside sort t (steps - 1) stage s' after
  slice_begins zero before stage s s' r after some h = absurd (some refl)
  slice_begins (suc steps) before stage s s' r after some h =
      let e : steps ≡ suc steps - 1 = omega arith in
      h inside steps ∙ ap (λ (n : ℕ). left_stage inside sort t n stage s' after) e

  slice_fails : (steps : ℕ) (before : Before) (e : ReadFault) (s s' : State ℕ) (r after : Rest) → (steps ≡ 0 → ⊥) → BeginsSlice sort t before (Err e) s r s' after → Fails e (slices_by (refer_by inside) sort t steps before s r)
  slice_fails zero before e s s' r after some h = absurd (some refl)
  slice_fails (suc steps) before e s s' r after some h = h inside steps

-- ---- an entry of the table

abbrev pub with_entry : Open → ℕ → Open
with_entry o n = record { front = o.front; next = o.next; table = o.table ++ n ∷ []; left = o.left - 1 }

module _ (refer : Option ℕ → Reader (State ℕ) (Option ℕ)) where
  abbrev entry_first : ℕ → List ℕ × State ℕ × Rest → Result (List ℕ × State ℕ × Rest) Fault
  entry_first n y = Ok (n ∷ y.0, y.1, y.2)

  abbrev by_names : Open → State ℕ → Rest → List ℕ → Result (Slice × State ℕ × Rest) Fault
  by_names o s r table = Ok (slice_with o.front table, with_met (resolved table (uses_of o.front)) s, r)

  more : (o unknown : Open) (n : ℕ) → unknown ≡ with_entry o n → (read : Result (List ℕ × State ℕ × Rest) Fault) → (read >>= entry_first n >>= with_entries o) ≡ (read >>= with_entries unknown)
  more o unknown n is (Err e) = refl
  more o unknown n is (Ok y) = ap (by_names o y.1 y.2) (sym (append_assoc o.table (n ∷ []) y.0)) ∙ ap (λ (k : Open). with_entries k y) (sym is)

  left_is : (o unknown : Open) (left n : ℕ) → o.left ≡ suc left → unknown ≡ with_entry o n → unknown.left ≡ left
  left_is o unknown left n some is = ap (λ (k : Open). k.left) is ∙ omega (arith, some)

  -- the name that a reference has, and what is read behind it
  abbrev entry_then : Open → ℕ → ℕ → Option ℕ × State ℕ × Rest → Result (Slice × State ℕ × Rest) Fault
  entry_then o place left x = not_null place x.0 (λ name. entries_at refer left x.1 x.2 >>= entry_first name) >>= with_entries o

  first_entry : (o : Open) (place left : ℕ) (read : Result (Option ℕ × State ℕ × Rest) Fault)
      → ((read >>= λ x. not_null place x.0 (λ name. entries_at refer left x.1 x.2 >>= entry_first name)) >>= with_entries o) ≡ (read >>= entry_then o place left)
  first_entry o place left (Ok x) = refl
  first_entry o place left (Err e) = refl

  table_is : (o : Open) (left : ℕ) (s : State ℕ) (r : Rest) → o.left ≡ suc left → left_table refer o s r ≡ (refer None s r >>= entry_then o r.place left)
  table_is o left s r some = ap (λ (n : ℕ). entries_at refer n s r >>= with_entries o) some ∙ first_entry o r.place left (refer None s r)

  -- one that is known
  entry_known : (o unknown : Open) (left n : ℕ) (s s' : State ℕ) (r after : Rest) → o.left ≡ suc left → unknown ≡ with_entry o n → refer None s r ≡ Ok (Some n, s', after) → left_table refer o s r ≡ left_table refer unknown s' after
  entry_known o unknown left n s s' r after some is e =
      table_is o left s r some ∙ ap (λ (x : Result (Option ℕ × State ℕ × Rest) Fault). x >>= entry_then o r.place left) e
      ∙ more o unknown n is (entries_at refer left s' after) ∙ ap (λ (k : ℕ). entries_at refer k s' after >>= with_entries unknown) (sym (left_is o unknown left n some is))

  -- null
  entry_null : (o : Open) (left : ℕ) (s s' : State ℕ) (r after : Rest) → o.left ≡ suc left → refer None s r ≡ Ok (None, s', after) → left_table refer o s r ≡ fault r.place BadReference
  entry_null o left s s' r after some e = table_is o left s r some ∙ ap (λ (x : Result (Option ℕ × State ℕ × Rest) Fault). x >>= entry_then o r.place left) e

  entry_fails : (o : Open) (left : ℕ) (e : ReadFault) (s : State ℕ) (r : Rest) → o.left ≡ suc left → Fails e (refer None s r) → Fails e (left_table refer o s r)
  entry_fails o left e s r some h = fault_along e _ _ (sym (table_is o left s r some)) (fails_then e (refer None s r) (entry_then o r.place left) h)

  -- one at which an instance begins
  entry_begins : (inside : Inside (State ℕ)) (o unknown : Open) (left n : ℕ) (s s' : State ℕ) (r after : Rest) → o.left ≡ suc left → unknown ≡ with_entry o n → refer None s r ≡ (inside n s' after >>= λ x. Ok (Some n, x.0, x.1))
      → left_table refer o s r ≡ (inside n s' after >>= λ x. left_table refer unknown x.0 x.1)
  entry_begins inside o unknown left n s s' r after some is e =
      table_is o left s r some ∙ ap (λ (x : Result (Option ℕ × State ℕ × Rest) Fault). x >>= entry_then o r.place left) e ∙ behind_it (inside n s' after)
    where
      behind_it : (read : Result (State ℕ × Rest) Fault) → (read >>= (λ x. Ok (Some n, x.0, x.1)) >>= entry_then o r.place left) ≡ (read >>= λ x. left_table refer unknown x.0 x.1)
      behind_it (Ok x) = more o unknown n is (entries_at refer left x.0 x.1) ∙ ap (λ (k : ℕ). entries_at refer k x.0 x.1 >>= with_entries unknown) (sym (left_is o unknown left n some is))
      behind_it (Err e) = refl

-- ---- in an instance

module _ (inside : Inside (State ℕ)) (sort : SlicedType) (t : Tables) where
  abbrev refer : Option ℕ → Reader (State ℕ) (Option ℕ)
  refer = refer_by inside

  -- the slices that follow, and all slices
  abbrev carried : ℕ → Option Before → List Slice → Result (Slice × State ℕ × Rest) Fault → Result (List Slice × State ℕ × Rest) Fault
  carried steps next had read = (read >>= λ x. made (one_more x.0) (left_next refer sort t steps next) x.1 x.2) >>= λ y. Ok (behind had y.0, y.1, y.2)

  carried_behind : {A : Type 0} (steps : ℕ) (follows : Option Before) (had : List Slice) (read : Result A Fault) (next : A → Result (Slice × State ℕ × Rest) Fault) → carried steps follows had (read >>= next) ≡ (read >>= λ x. carried steps follows had (next x))
  carried_behind steps follows had (Ok x) next = refl
  carried_behind steps follows had (Err e) next = refl

  met_known : (n : Option ℕ) (s s' : State ℕ) (r after : Rest) → inline_at most_instances None s r ≡ Ok (pausing.known n, s', after) → refer None s r ≡ Ok (n, s', after)
  met_known n s s' r after e = rw e refl

  met_begins : (n : ℕ) (s s' : State ℕ) (r after : Rest) → inline_at most_instances None s r ≡ Ok (begins n, s', after) → refer None s r ≡ (inside n s' after >>= λ x. Ok (Some n, x.0, x.1))
  met_begins n s s' r after e = rw e refl

  -- a slice begins
  module _ (u : Unfinished) (before : code.Before) (s s' : State ℕ) (r after : Rest) (on : is_over sort (view_before before) r.bytes ≡ false) where
    abbrev slices_now : Result (List Slice × State ℕ × Rest) Fault
    slices_now = slices_by refer sort t u.steps (view_before before) s r

    begins_now : left_by inside sort t u (stages.Next before) s r ≡ (slices_now >>= λ y. Ok (behind (view_slices u.slices) y.0, y.1, y.2))
    begins_now = ap (λ (b : Bool). unless_over refer b (slices_by refer sort t u.steps (view_before before)) s r >>= λ y. Ok (behind (view_slices u.slices) y.0, y.1, y.2)) on

    pub begins_next : (stage : Stage) → (u.steps ≡ 0 → ⊥) → BeginsSlice sort t (view_before before) (Ok stage) s r s' after
        → left_by inside sort t u (stages.Next before) s r ≡ left_slices inside sort t (record { name = u.name; steps = u.steps - 1; slices = u.slices; stage = stage }) s' after
    begins_next stage some h =
        begins_now
        ∙ ap (λ (read : Result (List Slice × State ℕ × Rest) Fault). read >>= λ y. Ok (behind (view_slices u.slices) y.0, y.1, y.2)) (slice_begins inside sort t u.steps (view_before before) stage s s' r after some h)

    pub fails_next : (e : ReadFault) → (u.steps ≡ 0 → ⊥) → BeginsSlice sort t (view_before before) (Err e) s r s' after → Fails e (left_by inside sort t u (stages.Next before) s r)
    fails_next e some h =
        fault_along e _ _ (sym begins_now)
        (fails_then e slices_now (λ y. Ok (behind (view_slices u.slices) y.0, y.1, y.2)) (slice_fails inside sort t u.steps (view_before before) e s s' r after some h))

    pub none_may_begin : u.steps ≡ 0 → left_by inside sort t u (stages.Next before) s r ≡ fault r.place Short
    none_may_begin none = begins_now ∙ ap (λ (read : Result (List Slice × State ℕ × Rest) Fault). read >>= λ y. Ok (behind (view_slices u.slices) y.0, y.1, y.2)) (no_steps sort none)
      where
        no_steps : (sort : SlicedType) → u.steps ≡ 0 → slices_by refer sort t u.steps (view_before before) s r ≡ fault r.place Short
        no_steps sorts.Class none = rw none refl
        no_steps sorts.Exception none = rw none refl

  -- none has to follow
  pub over_is : (u : Unfinished) (before : code.Before) (s : State ℕ) (r : Rest) → is_over sort (view_before before) r.bytes ≡ true → left_by inside sort t u (stages.Next before) s r ≡ Ok (view_slices u.slices, s, r)
  over_is u before s r over =
      ap (λ (b : Bool). unless_over refer b (slices_by refer sort t u.steps (view_before before)) s r >>= λ y. Ok (behind (view_slices u.slices) y.0, y.1, y.2)) over
      ∙ ap (λ (slices : List Slice). Ok (slices, s, r)) (append-nil (view_slices u.slices))

  -- an entry is read
  some_left : (n : ℕ) → 0 < n → (left : ℕ) × (n ≡ suc left)
  some_left zero lt = absurd (omega (arith, lt))
  some_left (suc n) lt = (n, refl)

  module _ (old new : Unfinished) (slice : OpenSlice) (n : ℕ) (s s' : State ℕ) (r after : Rest) (some : 0 < slice.left) where
    pub keeps_known : Keeps old new (opened slice) n → inline_at most_instances None s r ≡ Ok (pausing.known (Some n), s', after) → left_by inside sort t old (stages.Open slice) s r ≡ left_slices inside sort t new s' after
    keeps_known (unknown, new_is, is) e =
        let left = some_left slice.left some in
        ap (carried old.steps (view_next slice.next) (view_slices old.slices)) (entry_known refer (opened slice) (opened unknown) left.0 n s s' r after left.1 is (met_known (Some n) s s' r after e))
        ∙ ap (λ (b : Option Before). carried old.steps b (view_slices old.slices) (left_table refer (opened unknown) s' after)) (sym (ap (λ (o : Open). o.next) is))
        ∙ ap (λ (u : Unfinished). left_slices inside sort t u s' after) (sym new_is)

    pub keeps_begins : Keeps old new (opened slice) n → inline_at most_instances None s r ≡ Ok (begins n, s', after) → left_by inside sort t old (stages.Open slice) s r ≡ (inside n s' after >>= λ x. left_slices inside sort t new x.0 x.1)
    keeps_begins (unknown, new_is, is) e =
        let left = some_left slice.left some in
        ap (carried old.steps (view_next slice.next) (view_slices old.slices)) (entry_begins refer inside (opened slice) (opened unknown) left.0 n s s' r after left.1 is (met_begins n s s' r after e))
        ∙ carried_behind old.steps (view_next slice.next) (view_slices old.slices) (inside n s' after) (λ x. left_table refer (opened unknown) x.0 x.1)
        ∙ ap (λ (b : Option Before). inside n s' after >>= λ x. carried old.steps b (view_slices old.slices) (left_table refer (opened unknown) x.0 x.1)) (sym (ap (λ (o : Open). o.next) is))
        ∙ ap (λ (u : Unfinished). inside n s' after >>= λ x. left_slices inside sort t u x.0 x.1) (sym new_is)

  module _ (old : Unfinished) (slice : OpenSlice) (s s' : State ℕ) (r after : Rest) (some : 0 < slice.left) where
    pub null_entry : inline_at most_instances None s r ≡ Ok (pausing.known None, s', after) → left_by inside sort t old (stages.Open slice) s r ≡ fault r.place BadReference
    null_entry e =
        let left = some_left slice.left some in
        ap (carried old.steps (view_next slice.next) (view_slices old.slices)) (entry_null refer (opened slice) left.0 s s' r after left.1 (met_known None s s' r after e))

    pub entry_refused : (e : ReadFault) → Fails e (inline_at most_instances None s r) → Fails e (left_by inside sort t old (stages.Open slice) s r)
    entry_refused e h =
        let left = some_left slice.left some in
        fails_then e (left_open refer sort t old.steps (opened slice) s r) (λ y. Ok (behind (view_slices old.slices) y.0, y.1, y.2))
        (fails_then e (left_table refer (opened slice) s r) (λ x. made (one_more x.0) (left_next refer sort t old.steps (view_next slice.next)) x.1 x.2)
        (entry_fails refer (opened slice) left.0 e s r left.1 (fails_then e (inline_at most_instances None s r) (λ x. met inside x.0 x.1 x.2) h)))

-- ---- a slice is read whole

-- one slice more before those that are behind it
had_one : (had : List stored.Slice) (slice : stored.Slice) (others : List Slice) → behind (view_slices had) (one_more (view_slice slice) others) ≡ behind (view_slices (had ++ slice ∷ [])) others
had_one [] slice others = refl
had_one (first ∷ had) slice others = ap (λ (slices : List Slice). view_slice first ∷ slices) (had_one had slice others)

module _ (inside : Inside (State ℕ)) (sort : SlicedType) (t : Tables) (u : Unfinished) where
  abbrev behind_had : List Slice × State ℕ × Rest → Result (List Slice × State ℕ × Rest) Fault
  behind_had y = Ok (behind (view_slices u.slices) y.0, y.1, y.2)

  -- it stands last, and others follow it
  with_it : (slice : stored.Slice) (others : Result (List Slice × State ℕ × Rest) Fault)
      → (others >>= λ y. Ok (one_more (view_slice slice) y.0, y.1, y.2)) >>= behind_had ≡ (others >>= λ y. Ok (behind (view_slices (u.slices ++ slice ∷ [])) y.0, y.1, y.2))
  with_it slice (Ok y) = λ i. Ok (had_one u.slices slice y.0 i, y.1, y.2)
  with_it slice (Err e) = refl

  -- its table is read
  table_whole : (o : Open) (s : State ℕ) (r : Rest) → o.left ≡ 0 → left_table (refer_by inside) o s r ≡ Ok (slice_with o.front o.table, with_met (resolved o.table (uses_of o.front)) s, r)
  table_whole o s r none =
      ap (λ (n : ℕ). entries_at (refer_by inside) n s r >>= with_entries o) none
      ∙ (λ i. Ok (slice_with o.front (append-nil o.table i), with_met (resolved (append-nil o.table i) (uses_of o.front)) s, r))

  closes : (o : OpenSlice) (slice : stored.Slice) (s s' : State ℕ) (r : Rest) → o.left ≡ 0 → view_slice slice ≡ slice_with (view_body o.body) o.table → s' ≡ with_met (resolved o.table (uses_of (view_body o.body))) s
      → left_by inside sort t u (stages.Open o) s r ≡ left_behind inside sort t u.steps (u.slices ++ slice ∷ []) (view_next o.next) s' r
  closes o slice s s' r none seen met =
      ap (carried inside sort t u.steps (view_next o.next) (view_slices u.slices)) (table_whole (opened o) s r none ∙ (λ i. Ok (sym seen i, sym met i, r)))
      ∙ with_it slice (left_next (refer_by inside) sort t u.steps (view_next o.next) s' r)

  pub table_ends : (o : OpenSlice) (slice : stored.Slice) (s s' : State ℕ) (r : Rest) → o.left ≡ 0 → view_slice slice ≡ slice_with (view_body o.body) o.table → s' ≡ with_met (resolved o.table (uses_of (view_body o.body))) s
      → (now : Unfinished) (result : Result (Step (Unit {0})) ReadFault) → Advances inside sort t now result (left_behind inside sort t u.steps (u.slices ++ slice ∷ []) (view_next o.next) s' r) s' r → Advances inside sort t now result (left_by inside sort t u (stages.Open o) s r) s' r
  table_ends o slice s s' r none seen met now result h = subst (λ (x : Result (List Slice × State ℕ × Rest) Fault). Advances inside sort t now result x s' r) (sym (closes o slice s s' r none seen met)) h

-- ---- the members of a slice without a size

module _ (inside : Inside (State ℕ)) (sort : SlicedType) (t : Tables) (u : Unfinished) (class : ℕ) (next : Option code.Before) (fields : Shape) (is : fields ≡ own_fields (rows_of sort t) class) where
  abbrev members_left : MembersReader → Reader (State ℕ) Members
  members_left members = left_of_members (inline_at most_instances) t inside fields members

  abbrev compact : MembersReader → CompactSlice
  compact members = record { class = class; next = next; members = members }

  -- all slices, when the rest of these members is read
  abbrev left_from : MembersReader → Reader (State ℕ) (List Slice)
  left_from members = made (behind (view_slices u.slices)) (left_compact inside sort t u.steps (compact members))

  abbrev as_slice : Members × State ℕ × Rest → Result (Slice × State ℕ × Rest) Fault
  as_slice x = Ok (known class x.0, x.1, x.2)

  abbrev and_next : Slice × State ℕ × Rest → Result (List Slice × State ℕ × Rest) Fault
  and_next x = made (one_more x.0) (left_next (refer_by inside) sort t u.steps (view_next next)) x.1 x.2

  abbrev completed : Result (Members × State ℕ × Rest) Fault → Result (List Slice × State ℕ × Rest) Fault
  completed read = read >>= as_slice >>= and_next >>= behind_had inside sort t u

  completed_behind : {A : Type 0} (read : Result A Fault) (then : A → Result (Members × State ℕ × Rest) Fault) → completed (read >>= then) ≡ (read >>= λ x. completed (then x))
  completed_behind (Ok x) then = refl
  completed_behind (Err e) then = refl

  completes : (members : MembersReader) (s : State ℕ) (r : Rest) → left_from members s r ≡ completed (members_left members s r)
  unfolding left_members
  completes members s r = ap (λ (shape : Shape). completed (left_of_members (inline_at most_instances) t inside shape members s r)) (sym is)

  members_pause : (old new : MembersReader) (n : ℕ) (s s' : State ℕ) (r after : Rest) → members_left old s r ≡ (inside n s' after >>= λ x. members_left new x.0 x.1)
      → left_from old s r ≡ (inside n s' after >>= λ x. left_from new x.0 x.1)
  members_pause old new n s s' r after read =
      completes old s r ∙ ap completed read ∙ completed_behind (inside n s' after) (λ x. members_left new x.0 x.1) ∙ (λ i. inside n s' after >>= λ x. sym (completes new x.0 x.1) i)

  -- and then it is left where it paused
  pub members_paused : (old new : MembersReader) (n : ℕ) (s s' : State ℕ) (r after : Rest) → members_left old s r ≡ (inside n s' after >>= λ x. members_left new x.0 x.1) → (now : Unfinished) → Pauses sort t u now (compact new)
      → left_from old s r ≡ (inside n s' after >>= λ x. left_slices inside sort t now x.0 x.1)
  members_paused old new n s s' r after read now paused = members_pause old new n s s' r after read ∙ (λ i. inside n s' after >>= λ x. paused inside x.0 x.1 i)

  -- the members are left
  pub members_stay : (box : Box CompactSlice Global) (members : MembersReader) (s : State ℕ) (r : Rest) → box.value ≡ compact members
      → left_from members s r ≡ left_slices inside sort t (record { name = u.name; steps = u.steps; slices = u.slices; stage = stages.Compact box }) s r
  members_stay box members s r is = ap (λ (c : CompactSlice). made (behind (view_slices u.slices)) (left_compact inside sort t u.steps c) s r) (sym is)

  -- what is left from an equal slice
  pub left_same : (old : MembersReader) (slice : CompactSlice) (s : State ℕ) (r : Rest) → compact old ≡ slice → left_from old s r ≡ made (behind (view_slices u.slices)) (left_compact inside sort t u.steps slice) s r
  left_same old slice s r same = ap (λ (c : CompactSlice). made (behind (view_slices u.slices)) (left_compact inside sort t u.steps c) s r) same

  pub members_fail : (old : MembersReader) (e : ReadFault) (s : State ℕ) (r : Rest) → Fails e (members_left old s r) → Fails e (left_from old s r)
  members_fail old e s r h =
      fault_along e _ _ (sym (completes old s r))
      (fails_then e (members_left old s r >>= as_slice >>= and_next) (behind_had inside sort t u) (fails_then e (members_left old s r >>= as_slice) and_next (fails_then e (members_left old s r) as_slice h)))

  -- the slice is read whole
  module _ (old : MembersReader) (members : stored_members.Members) (s s' : State ℕ) (r after : Rest) (read : members_left old s r ≡ Ok (view_content members, s', after)) where
    pub others_left : left_from old s r ≡ left_behind inside sort t u.steps (u.slices ++ Known class members ∷ []) (view_next next) s' after
    others_left = completes old s r ∙ ap completed read ∙ with_it inside sort t u (Known class members) (left_next (refer_by inside) sort t u.steps (view_next next) s' after)

    pub members_whole : (now : Unfinished) (result : Result (Step (Unit {0})) ReadFault) → Advances inside sort t now result (left_behind inside sort t u.steps (u.slices ++ Known class members ∷ []) (view_next next) s' after) s' after
        → Advances inside sort t now result (left_from old s r) s' after
    members_whole now result h = subst (λ (x : Result (List Slice × State ℕ × Rest) Fault). Advances inside sort t now result x s' after) (sym others_left) h

-- ---- behind a slice

module _ (inside : Inside (State ℕ)) (sort : SlicedType) (t : Tables) (u : Unfinished) (had now : List stored.Slice) (one : now ≡ had) (next : Option code.Before) (s : State ℕ) (r : Rest) where
  abbrev behind_now : List Slice × State ℕ × Rest → Result (List Slice × State ℕ × Rest) Fault
  behind_now y = Ok (behind (view_slices now) y.0, y.1, y.2)

  now_behind : left_behind inside sort t u.steps had (view_next next) s r ≡ (left_next (refer_by inside) sort t u.steps (view_next next) s r >>= behind_now)
  now_behind = ap (λ (slices : List stored.Slice). left_behind inside sort t u.steps slices (view_next next) s r) (sym one)

  -- one follows
  pub next_leads : (before : code.Before) → next ≡ Some before → left_behind inside sort t u.steps had (view_next next) s r ≡ left_slices inside sort t (record { name = u.name; steps = u.steps; slices = now; stage = stages.Next before }) s r
  next_leads before some = now_behind ∙ ap (λ (n : Option code.Before). left_next (refer_by inside) sort t u.steps (view_next n) s r >>= behind_now) some

  -- none follows
  pub none_left : next ≡ None → left_behind inside sort t u.steps had (view_next next) s r ≡ left_slices inside sort t (record { name = u.name; steps = u.steps; slices = now; stage = stages.Over }) s r
  none_left none = now_behind ∙ ap (λ (n : Option code.Before). left_next (refer_by inside) sort t u.steps (view_next n) s r >>= behind_now) none

-- behind the last one nothing is left
pub over_whole : (inside : Inside (State ℕ)) (sort : SlicedType) (t : Tables) (u : Unfinished) (s : State ℕ) (r : Rest) → left_by inside sort t u stages.Over s r ≡ Ok (view_slices u.slices, s, r)
over_whole inside sort t u s r = ap (λ (slices : List Slice). Ok (slices, s, r)) (append-nil (view_slices u.slices))
