-- An instance is refused exactly where one of its slices has the defect, with the instances that begin in it.
use Rattle.std.proofs.Common.{◌≡◌, ℕ, zero, suc, ◌+◌, ◌≤◌, ◌<◌, Bool, true, false, ◌&&◌, ltb, List, [], ◌∷◌, ◌++◌, length, Option, None, Some, Result, Ok, Err, refl, sym, ap, subst, ◌∙◌, inl, inr, arith}
use Rattle.std.proofs.lemmas.Bool.{ltb-true, ltb-false, lt-ltb, le-ltb}
use Rattle.std.proofs.lemmas.List.{length-append}
use Rattle.ice_types.specs.Fits.{AreOf}
use Rattle.ice_types.specs.Tables.{Tables}
use Rattle.ice_prims.specs.declared.fault.Fault.{Fault}
use Rattle.ice_prims.specs.declared.fault.Kind.TheVariants.{Short, BadReference, TooMany}
use Rattle.ice_prims.specs.Rest.{Rest, fault, ◌>>=◌, Took, IsBytes}
use Rattle.ice_prims.specs.Number.{SpellsSize, size_at}
use Rattle.ice_prims.proofs.Parts.{chosen as choice, then_ok, ok_is, Took-fits}
use Rattle.ice_encoding.specs.Parts.{size}
use Rattle.ice_encoding.specs.Pausing.{Met, known, begins, met, in_place}
use Rattle.ice_encoding.specs.Port.{Port, IsLawful, Reader, Speller, nowhere}
use Rattle.ice_encoding.specs.Reading.{made}
use Rattle.ice_encoding.proofs.Joined.{size_lawful}
use Rattle.ice_encoding.proofs.Values.{Lawful}
use Rattle.ice_encoding.specs.Classes.{own_members}
use Rattle.ice_encoding.specs.Flags.{Flags, IdForm, no_id, as_text, as_index, as_number, Reach, is_all, Before, first}
use Rattle.ice_encoding.specs.Graph.{Slice}
use Rattle.ice_encoding.specs.Instances.{instances}
use Rattle.ice_encoding.specs.References.{Reference, State, seen, met_at, with_met, with_ended, replaced, beginning, SpellsInline, inline_of, inline_at, instance_by, begun_at, SpellsEntries, SpellsTable}
use Rattle.ice_encoding.specs.Slices.{one_more, SpellsBody, Behind, SpellsSlices, SpellsInstance, body_at, next_slices, slices_at, instance_at}
use Rattle.ice_encoding.specs.TypeIds.{SpellsId, class_in, can_be_read, before_next}
use Rattle.ice_encoding.proofs.References.{seen_more}
use Rattle.ice_encoding.proofs.Slices.{body_lawful, instances_seen, instances_lawful}
use Rattle.graph_laws.specs.Defects.{Defect, Never}
use Rattle.graph_laws.specs.Heads.{Head, HeadBreaks, bad_flags, HeadStands}
use Rattle.graph_laws.specs.Slices.{BodyBreaks, SlicesBreak, InstanceBreaks, InlineBreaks, InstancesBreak}
use Rattle.graph_laws.proofs.Bodies.{body_broken, body_breaks}
use Rattle.graph_laws.proofs.Breaking.{failed, same_err, no_err, then_err}
use Rattle.graph_laws.proofs.From.{goes, stops, Tells, Keeps}
use Rattle.graph_laws.proofs.Heads.{behind_tests, passes, head_broken, head_breaks, head_goes}
use Rattle.graph_laws.proofs.Members.{slice_members_keep}
use Rattle.graph_laws.proofs.Primitives.{size_agrees}

-- so many instances may begin besides those that have begun, at least up to the limit
abbrev pub Room : ℕ → ℕ → State (Unit {0}) → Type 0
Room limit more s = limit ≤ more + length s.instances

replaced_length : {A : Type 0} (n : ℕ) (x : A) (l : List A) → length (replaced n x l) ≡ length l
replaced_length n x [] = refl
replaced_length zero x (y ∷ l) = refl
replaced_length (suc n) x (y ∷ l) = ap suc (replaced_length n x l)

-- ---- what is spelled leads on

module _ (limit more : ℕ) where
  abbrev Roomy : State (Unit {0}) → Type 0
  Roomy = Room limit more

  id_keeps : (form : IdForm) → Keeps Roomy (SpellsId form)
  id_keeps no_id bytes x from to h good = subst Roomy (sym h.2) good
  id_keeps as_text bytes x from to h good = subst Roomy (sym h.1) good
  id_keeps as_index bytes x from to h good = subst Roomy (sym h.3) good
  id_keeps as_number bytes x from to h good = subst Roomy (sym h.3) good

  module _ (port : Port (State ℕ) (State (Unit {0}))) (keeps : (at : Option ℕ) → Keeps Roomy (port.Spells at)) (t : Tables) where
    entries_keep : (n : ℕ) → Keeps Roomy (SpellsEntries port n)
    entries_keep zero bytes x from to h good = subst Roomy (sym h.2) good
    entries_keep (suc n) bytes x from to h good = entries_keep n h.3 h.1 h.4 to h.8 (keeps None h.2 (Some h.0) from h.4 h.7 good)

    table_keeps : (tabled : Bool) (uses : List (Reference (Unit {0}))) → Keeps Roomy (SpellsTable port tabled uses)
    table_keeps false uses bytes x from to h good = subst Roomy (sym h.2) good
    table_keeps true uses bytes x from to h good = subst Roomy (sym h.8) (entries_keep h.0 h.2 x from h.3 h.7 good)

    body_keeps : (f : Flags) (id : List ℕ) (sized : Bool) (class : Option ℕ) → Keeps Roomy (SpellsBody port t f id sized class)
    body_keeps f id true (Some class) bytes x from to (content, uses, a, b, parts, members, (table, made_is, h)) good = table_keeps f.has_table uses b table from to h good
    body_keeps f id true None bytes x from to (kept, a, b, mid, parts, (spells, still), (table, made_is, h)) good = table_keeps f.has_table [] b table mid to h (subst Roomy (sym still) good)
    body_keeps f id false (Some class) bytes x from to (content, made_is, h) good = slice_members_keep port Roomy keeps t f.has_optional (own_members t class) bytes content from to h good
    body_keeps f id false None bytes x from to h good = absurd h

    behind_keeps : (Next : Before → Speller (State (Unit {0})) (List Slice)) → ((before : Before) → Keeps Roomy (Next before)) → (last : Bool) (before : Before) → Keeps Roomy (Behind port t Next last before)
    behind_keeps Next one true before bytes x from to h good = subst Roomy (sym h.2) good
    behind_keeps Next one false before bytes x from to h good = one before bytes x from to h good

    slices_keep : (reach : Reach) (n : ℕ) (before : Before) → Keeps Roomy (SpellsSlices port t reach n before)
    slices_keep reach zero before bytes x from to h good = absurd h
    slices_keep reach (suc n) before bytes x from to (f, a, b, mid, parts, (flags, still), (id, c, d, next, cut, is_id, (base, (read, (ends, (slice, g, k, end, pieces, body, (others, is, rest))))))) good =
        behind_keeps (SpellsSlices port t reach n) (slices_keep reach n) f.is_last (before_next t (class_in t before id) f) k others end to rest
        (body_keeps f id f.has_size (class_in t before id) g slice next end body (id_keeps f.id c id mid next is_id (subst Roomy (sym still) good)))

    instance_keeps : (reach : Reach) → Keeps Roomy (SpellsInstance port t reach)
    instance_keeps reach bytes x from to h good = slices_keep reach h.0 first bytes x from to h.1 good

  inline_keeps : (most : ℕ) (Slices : Speller (State (Unit {0})) (List Slice)) → Keeps Roomy Slices → (declared : Option ℕ) → Keeps Roomy (SpellsInline most Slices declared)
  inline_keeps most Slices one declared bytes None from to h good = subst Roomy (sym h.1) good
  inline_keeps most Slices one declared bytes (Some n) from to (inl (found, front, rest, end, parts, size, number, room, h, ends)) good =
      let started : Roomy (beginning tt declared from) = omega (arith, good, length-append from.instances ([] ∷ [])) in
      let after : Roomy end = one rest found (beginning tt declared from) end h started in
      subst Roomy (sym ends) (omega (arith, after, replaced_length n found end.instances))
  inline_keeps most Slices one declared bytes (Some n) from to (inr h) good = subst Roomy (sym h.2) good

  pub port_keeps : (t : Tables) (reach : Reach) (most count : ℕ) (at : Option ℕ) → Keeps Roomy ((instances t reach most count).Spells at)
  port_keeps t reach most zero at = inline_keeps most (λ bytes slices from to. ⊥) (λ bytes x from to h good. absurd h) at
  port_keeps t reach most (suc count) at = inline_keeps most (SpellsInstance (instances t reach most count) t reach) (instance_keeps (instances t reach most count) (port_keeps t reach most count) t reach) at

-- ---- one slice after the other

module _ (limit more : ℕ) (port : Port (State ℕ) (State (Unit {0}))) (same : port.seen ≡ seen) (lawful : IsLawful port) (keeps : (at : Option ℕ) → Keeps (Room limit more) (port.Spells at)) (ReferenceBreaks : Option ℕ → State (Unit {0}) → Defect)
    (refer : (at : Option ℕ) → Tells seen (Room limit more) (port.read at) (ReferenceBreaks at)) (t : Tables) (own : (class : ℕ) → AreOf t (own_members t class).required × AreOf t (own_members t class).optional) (reach : Reach) where
  abbrev Good : State (Unit {0}) → Type 0
  Good = Room limit more

  abbrev reads : ℕ → Before → Reader (State ℕ) (List Slice)
  reads = slices_at port.read t reach

  abbrev Broken : Before → State (Unit {0}) → ℕ → List ℕ → Fault → Type 0
  Broken before from place bytes fault = (n : ℕ) × SlicesBreak port ReferenceBreaks t reach n before from place bytes fault

  abbrev Body : Flags → Option ℕ → State (Unit {0}) → Defect
  Body f class = BodyBreaks port ReferenceBreaks t f f.has_size class

  law : (f : Flags) (id : List ℕ) (class : Option ℕ) → Lawful seen (body_at port.read t f id f.has_size class) (SpellsBody port t f id f.has_size class)
  law f id class = body_lawful port same lawful t f id f.has_size class

  -- without a size it is known
  readable : (class : Option ℕ) (f : Flags) → can_be_read reach class f ≡ true → f.has_size ≡ false → class ≡ None → ⊥
  readable None f can out none = both (is_all reach) f.has_size can out
    where
      both : (a b : Bool) → (a && b) ≡ true → b ≡ false → ⊥
      both true true p q = absurd cc
      both true false p q = absurd cc
      both false b p q = absurd cc
  readable (Some class) f can out none = absurd cc

  -- the flags are one byte
  one_byte : (before : Before) (from : State (Unit {0})) (bytes : List ℕ) (h : Head before from bytes) → length h.front ≡ 1
  one_byte before from bytes h = ap length h.spells_flags.1

  head_long : (before : Before) (from : State (Unit {0})) (bytes : List ℕ) (h : Head before from bytes) → 1 + length h.rest ≤ length bytes
  head_long before from bytes h = omega (arith, one_byte before from bytes h, ap length h.parts, length-append h.front (h.back ++ h.rest), length-append h.back h.rest)

  last_err : {C : Type 0} (count : ℕ) (last : Bool) (before : Before) (s : State ℕ) (m : Rest) (e : Fault) → next_slices port.read t (reads count) last before s m ≡ failed e → (last ≡ false → reads count before s m ≡ failed e → C) → C
  last_err count true before s m e h go = no_err ([], s, m) e h
  last_err count false before s m e h go = go refl h

  next_is : (count : ℕ) (last : Bool) (before : Before) (s : State ℕ) (m : Rest) → last ≡ false → next_slices port.read t (reads count) last before s m ≡ reads count before s m
  next_is count true before s m e = absurd cc
  next_is count false before s m e = refl

  abbrev joined : ℕ → Before → Flags → List ℕ → Slice × State ℕ × Rest → Result (List Slice × State ℕ × Rest) Fault
  joined count before f id x = made (one_more x.0) (next_slices port.read t (reads count) f.is_last (before_next t (class_in t before id) f)) x.1 x.2

  -- behind a head that stands
  behind_broken : (count : ℕ) → ((before : Before) (s : State ℕ) (r : Rest) (e : Fault) → length r.bytes ≤ count → Good (seen s) → IsBytes r.bytes → reads count before s r ≡ failed e → Broken before (seen s) r.place r.bytes e)
      → (before : Before) (s : State ℕ) (r : Rest) (e : Fault) → length r.bytes ≤ suc count → Good (seen s) → (st : HeadStands t reach before (seen s) r.bytes) (q : State ℕ) (m : Rest) → seen q ≡ st.head.mid → m.bytes ≡ st.head.rest
      → m.place ≡ r.place + length st.head.front + length st.head.back → IsBytes m.bytes → behind_tests port.read t reach count before st.head.flags st.head.id q m ≡ failed e → Broken before (seen s) r.place r.bytes e
  behind_broken count later before s r e few good st q m mid left place inside h =
      let head = st.head in
      let f = head.flags in
      let class = class_in t before head.id in
      let good_q : Good (seen q) = subst Good (sym mid) (id_keeps limit more f.id head.back head.id (seen s) head.mid head.spells_id good) in
      then_err (body_at port.read t f head.id f.has_size class q m) (joined count before f head.id) e h
      (λ bad.
      let d : Body f class (seen q) m.place m.bytes e = body_broken port same lawful Good keeps ReferenceBreaks refer t own f head.id f.has_size class (readable class f st.can_be_read) q m e good_q inside bad in (
        0,
        inr (
          st,
          subst (λ (u : State (Unit {0})). Body f class u (r.place + length head.front + length head.back) head.rest e) mid
              (subst (λ (l : List ℕ). Body f class (seen q) (r.place + length head.front + length head.back) l e) left (subst (λ (p : ℕ). Body f class (seen q) p m.bytes e) place d)),
        ),
      ))
      (λ x x_is behind.
      then_err (next_slices port.read t (reads count) f.is_last (before_next t class f) x.1 x.2) (λ y. Ok (one_more x.0 y.0, y.1, y.2)) e behind
      (λ bad.
      last_err count f.is_last (before_next t class f) x.1 x.2 e bad λ not_last further.
      let g = (law f head.id class).found q m x inside x_is in
      let parts : head.rest ≡ g.0 ++ x.2.bytes = sym left ∙ g.1.parts in
      let fewer : length x.2.bytes ≤ count = omega (arith, few, head_long before (seen s) r.bytes head, ap length parts, length-append g.0 x.2.bytes) in
      let good_x : Good (seen x.1) = body_keeps limit more port keeps t f head.id f.has_size class g.0 x.0 (seen q) (seen x.1) g.2 good_q in
      let d = later (before_next t class f) x.1 x.2 e fewer good_x ((Took-fits m x.2 g.0 inside g.1).1) further in
      let at : x.2.place ≡ r.place + length head.front + length head.back + length g.0 = g.1.moved ∙ ap (λ (p : ℕ). p + length g.0) place in (
        suc d.0,
        (
          st,
          x.0,
          seen x.1,
          g.0,
          x.2.bytes,
          parts,
          subst (λ (u : State (Unit {0})). SpellsBody port t f head.id f.has_size class g.0 x.0 u (seen x.1)) mid g.2,
          not_last,
          subst (λ (p : ℕ). SlicesBreak port ReferenceBreaks t reach d.0 (before_next t class f) (seen x.1) p x.2.bytes e) at d.1,
        ),
      ))
      (λ y y_is done. no_err (one_more x.0 y.0, y.1, y.2) e done))

  slices_broken : (count : ℕ) (before : Before) (s : State ℕ) (r : Rest) (e : Fault) → length r.bytes ≤ count → Good (seen s) → IsBytes r.bytes → reads count before s r ≡ failed e → Broken before (seen s) r.place r.bytes e
  slices_broken zero before s r e few good fits h = (0, inl (bad_flags (inl (omega (arith, few), sym (same_err (record { place = r.place; kind = Short }) e h)))))
  slices_broken (suc count) before s r e few good fits h = head_broken port.read t reach count before s r e fits h (λ bad. (0, inl bad))
      (λ st q m mid left place inside behind. behind_broken count (slices_broken count) before s r e few good st q m mid left place inside behind)

  -- where nothing is left, the flags lack
  none_left : (before : Before) (s : State ℕ) (r : Rest) (e : Fault) → length r.bytes ≤ 0 → HeadBreaks t reach before (seen s) r.place r.bytes e → reads zero before s r ≡ failed e
  none_left before s r e none h =
      let d : Fault = record { place = r.place; kind = Short } in
      sym (head_breaks port.read t reach 0 before s r d (bad_flags (inl (omega (arith, none), refl)))) ∙ head_breaks port.read t reach 0 before s r e h

  no_head : {C : Type 0} (before : Before) (s : State ℕ) (r : Rest) → length r.bytes ≤ 0 → HeadStands t reach before (seen s) r.bytes → C
  no_head before s r none st = absurd (omega (arith, none, head_long before (seen s) r.bytes st.head))

  slices_break : (n count : ℕ) (before : Before) (s : State ℕ) (r : Rest) (e : Fault) → length r.bytes ≤ count → SlicesBreak port ReferenceBreaks t reach n before (seen s) r.place r.bytes e → reads count before s r ≡ failed e
  slices_break zero zero before s r e few (inl h) = none_left before s r e few h
  slices_break zero zero before s r e few (inr (st, h)) = no_head before s r few st
  slices_break (suc n) zero before s r e few (st, slice, to, a, rest, parts, spells, not_last, h) = no_head before s r few st
  slices_break zero (suc count) before s r e few (inl h) = head_breaks port.read t reach count before s r e h
  slices_break zero (suc count) before s r e few (inr (st, h)) =
      let head = st.head in
      let f = head.flags in
      let class = class_in t before head.id in
      let p = passes port.read t reach count before s r head in
      let d : Body f class (seen p.state) p.rest.place p.rest.bytes e = subst (λ (x : ℕ). Body f class (seen p.state) x p.rest.bytes e) (sym p.place)
      (subst (λ (l : List ℕ). Body f class (seen p.state) (r.place + length head.front + length head.back) l e) (sym p.left) (subst (λ (u : State (Unit {0})). Body f class u (r.place + length head.front + length head.back) head.rest e) (sym p.mid) h)) in
      head_goes port.read t reach count before s r st
      ∙ stops (body_at port.read t f head.id f.has_size class p.state p.rest) (joined count before f head.id) e (body_breaks port same lawful Good keeps ReferenceBreaks refer t own f head.id f.has_size class p.state p.rest e d)
  slices_break (suc n) (suc count) before s r e few (st, slice, to, a, rest, parts, spells, not_last, h) =
      let head = st.head in
      let f = head.flags in
      let class = class_in t before head.id in
      let p = passes port.read t reach count before s r head in
      let q : Rest = record { place = p.rest.place + length a; bytes = rest } in
      let o = (law f head.id class).only p.state to p.rest q a slice (record { parts = p.left ∙ parts; moved = refl }) (subst (λ (u : State (Unit {0})). SpellsBody port t f head.id f.has_size class a slice u to) (sym p.mid) spells) in
      let fewer : length rest ≤ count = omega (arith, few, head_long before (seen s) r.bytes head, ap length parts, length-append a rest) in
      let d : SlicesBreak port ReferenceBreaks t reach n (before_next t class f) (seen o.0) q.place rest e = subst (λ (x : ℕ). SlicesBreak port ReferenceBreaks t reach n (before_next t class f) (seen o.0) (x + length a) rest e) (sym p.place)
      (subst (λ (u : State (Unit {0})). SlicesBreak port ReferenceBreaks t reach n (before_next t class f) u (r.place + length head.front + length head.back + length a) rest e) (sym o.1) h) in
      head_goes port.read t reach count before s r st
      ∙ goes (body_at port.read t f head.id f.has_size class p.state p.rest) (joined count before f head.id) (slice, o.0, q) o.2
      ∙ stops (next_slices port.read t (reads count) f.is_last (before_next t class f) o.0 q) (λ y. Ok (one_more slice y.0, y.1, y.2)) e
      (next_is count f.is_last (before_next t class f) o.0 q not_last ∙ slices_break n count (before_next t class f) o.0 q e fewer d)

  pub instance_tells : Tells seen Good (instance_at port.read t reach) (InstanceBreaks port ReferenceBreaks t reach)
  instance_tells = record {
    broken = λ s r e good fits h. slices_broken (length r.bytes) first s r e (omega arith) good fits h;
    breaks = λ s r e h. slices_break h.0 (length r.bytes) first s r e (omega arith) h.1;
  }

-- ---- references outside of sized slices

seen_beginning : (place : ℕ) (declared : Option ℕ) (s : State ℕ) → seen (beginning place declared s) ≡ beginning tt declared (seen s)
seen_beginning place declared s = λ i. record { instances = s.instances ++ [] ∷ []; ids = s.ids; met = seen_more s.met (met_at place declared (length s.instances)) i }

module _ (limit : ℕ) (slices : Reader (State ℕ) (List Slice)) (Breaks : State (Unit {0}) → Defect) (Good Inner : State (Unit {0}) → Type 0)
    (lift : (declared : Option ℕ) (s : State (Unit {0})) → Good s → length s.instances < limit → Inner (beginning tt declared s)) (told : Tells seen Inner slices Breaks) where
  abbrev goes_in : Met × State ℕ × Rest → Result (Option ℕ × State ℕ × Rest) Fault
  goes_in y = met (instance_by limit slices) y.0 y.1 y.2

  abbrev Inline : Option ℕ → State (Unit {0}) → Defect
  Inline = InlineBreaks limit Breaks

  -- the size stands, and what it says is refused
  taken_broken : (declared : Option ℕ) (n : ℕ) (s : State ℕ) (r m : Rest) (front : List ℕ) (e : Fault) → Took r front m → SpellsSize front n → inline_of limit declared r.place n s m ≡ failed e → Inline declared (seen s) r.place r.bytes e
  taken_broken declared zero s r m front e took stands h = no_err (known None, s, m) e h
  taken_broken declared (suc zero) s r m front e took stands h = by_room (ltb (length s.instances) limit) refl h
    where
      by_room : (room : Bool) → ltb (length s.instances) limit ≡ room → begun_at limit room declared r.place s m ≡ failed e → Inline declared (seen s) r.place r.bytes e
      by_room true is h = no_err _ e h
      by_room false is h = inr (inl (front, m.bytes, took.parts, stands, inl (ltb-false _ _ is, sym (same_err (record { place = r.place; kind = TooMany }) e h))))
  taken_broken declared (suc (suc n)) s r m front e took stands h = elim (choice (ltb n (length s.instances)) (Ok (known (Some n), with_met (met_at r.place declared n ∷ []) s, m)) (fault r.place BadReference) (Err e) h) [
    | inl good ↦ no_err _ e good.1
    | inr bad ↦ inr (inr (n, front, m.bytes, took.parts, stands, ltb-false _ _ bad.0, sym (same_err (record { place = r.place; kind = BadReference }) e bad.1)))
  ]

  -- an instance begins, and that is refused
  begun_broken : (declared : Option ℕ) (n : ℕ) (s : State ℕ) (r m : Rest) (front : List ℕ) (e : Fault) (y : Met × State ℕ × Rest) → Good (seen s) → IsBytes m.bytes → Took r front m → SpellsSize front n → inline_of limit declared r.place n s m ≡ Ok y → goes_in y ≡ failed e
      → Inline declared (seen s) r.place r.bytes e
  begun_broken declared zero s r m front e y good fits took stands is h = no_err _ e (ap goes_in (ok_is (known None, s, m) y is) ∙ h)
  begun_broken declared (suc zero) s r m front e y good fits took stands is h = by_room (ltb (length s.instances) limit) refl is
    where
      start : State ℕ
      start = beginning r.place declared s

      by_room : (room : Bool) → ltb (length s.instances) limit ≡ room → begun_at limit room declared r.place s m ≡ Ok y → Inline declared (seen s) r.place r.bytes e
      by_room true room is =
          let inside : goes_in (begins (length s.instances), start, m) ≡ failed e = ap goes_in (ok_is (begins (length s.instances), start, m) y is) ∙ h in
          then_err (instance_by limit slices (length s.instances) start m) (λ x. Ok (Some (length s.instances), x.0, x.1)) e inside
          (λ bad. then_err (slices start m) (λ x. Ok (with_ended (length s.instances) x.0 x.1, x.2)) e bad
          (λ worse.
          let there : length s.instances < limit = ltb-true _ _ room in
          let inner : Inner (seen start) = subst Inner (sym (seen_beginning r.place declared s)) (lift declared (seen s) good there) in
          let d = told.broken start m e inner fits worse in
          inr (inl (front, m.bytes, took.parts, stands, inr (there, subst (λ (p : ℕ). Breaks (beginning tt declared (seen s)) p m.bytes e) took.moved (subst (λ (u : State (Unit {0})). Breaks u m.place m.bytes e) (seen_beginning r.place declared s) d)))))
          (λ x x_is last. no_err _ e last))
          (λ x x_is last. no_err _ e last)
      by_room false room is = absurd cc
  begun_broken declared (suc (suc n)) s r m front e y good fits took stands is h = elim (choice (ltb n (length s.instances)) (Ok (known (Some n), with_met (met_at r.place declared n ∷ []) s, m)) (fault r.place BadReference) (Ok y) is) [
    | inl fine ↦ no_err _ e (ap goes_in (ok_is (known (Some n), with_met (met_at r.place declared n ∷ []) s, m) y fine.1) ∙ h)
    | inr bad ↦ absurd cc
  ]

  inline_broken : (declared : Option ℕ) (s : State ℕ) (r : Rest) (e : Fault) → Good (seen s) → IsBytes r.bytes → in_place (inline_at limit) (instance_by limit slices) declared s r ≡ failed e → Inline declared (seen s) r.place r.bytes e
  inline_broken declared s r e good fits h = then_err (inline_at limit declared s r) goes_in e h
      (λ bad. then_err (size_at r) (λ n. inline_of limit declared r.place n.0 s n.1) e bad
      (λ worse. inl (size_agrees.broken r e fits worse))
      (λ n n_is later. let f = size_lawful.found r n fits n_is in taken_broken declared n.0 s r n.1 f.0 e f.1 f.2 later))
      (λ y y_is later. then_ok (size_at r) (λ n. inline_of limit declared r.place n.0 s n.1) y y_is λ n n_is taken.
      let f = size_lawful.found r n fits n_is in
      begun_broken declared n.0 s r n.1 f.0 e y good ((Took-fits r n.1 f.0 fits f.1).1) f.1 f.2 taken later)

  sized_is : (declared : Option ℕ) (n : ℕ) (s : State ℕ) (r : Rest) (a rest : List ℕ) → r.bytes ≡ a ++ rest → SpellsSize a n
      → in_place (inline_at limit) (instance_by limit slices) declared s r ≡ (inline_of limit declared r.place n s (record { place = r.place + length a; bytes = rest }) >>= goes_in)
  sized_is declared n s r a rest parts spells =
      let m : Rest = record { place = r.place + length a; bytes = rest } in
      ap (λ (x : Result (Met × State ℕ × Rest) Fault). x >>= goes_in) (goes (size_at r) (λ n. inline_of limit declared r.place n.0 s n.1) (n, m) (size_lawful.only r m a n (record { parts = parts; moved = refl }) spells))

  inline_breaks : (declared : Option ℕ) (s : State ℕ) (r : Rest) (e : Fault) → Inline declared (seen s) r.place r.bytes e → in_place (inline_at limit) (instance_by limit slices) declared s r ≡ failed e
  inline_breaks declared s r e (inl h) = stops (inline_at limit declared s r) goes_in e (stops (size_at r) (λ n. inline_of limit declared r.place n.0 s n.1) e (size_agrees.breaks r e h))
  inline_breaks declared s r e (inr (inl (a, rest, parts, spells, inl (full, at)))) =
      let out : ltb (length s.instances) limit ≡ false = le-ltb _ _ full in
      sized_is declared 1 s r a rest parts spells ∙ (rw (out, at) refl)
  inline_breaks declared s r e (inr (inl (a, rest, parts, spells, inr (there, h)))) =
      let room : ltb (length s.instances) limit ≡ true = lt-ltb _ _ there in
      let start = beginning r.place declared s in
      let m : Rest = record { place = r.place + length a; bytes = rest } in
      let bad : slices start m ≡ failed e = told.breaks start m e (subst (λ (u : State (Unit {0})). Breaks u m.place rest e) (sym (seen_beginning r.place declared s)) h) in
      let inside : goes_in (begins (length s.instances), start, m) ≡ failed e =
      stops (instance_by limit slices (length s.instances) start m) (λ x. Ok (Some (length s.instances), x.0, x.1)) e (stops (slices start m) (λ x. Ok (with_ended (length s.instances) x.0 x.1, x.2)) e bad) in
      sized_is declared 1 s r a rest parts spells ∙ ap (λ (b : Bool). begun_at limit b declared r.place s m >>= goes_in) room ∙ inside
  inline_breaks declared s r e (inr (inr (n, a, rest, parts, spells, past, at))) =
      let out : ltb n (length s.instances) ≡ false = le-ltb _ _ past in
      sized_is declared (suc (suc n)) s r a rest parts spells ∙ (rw (out, at) refl)

  pub inline_tells : (declared : Option ℕ) → Tells seen Good (in_place (inline_at limit) (instance_by limit slices) declared) (Inline declared)
  inline_tells declared = record { broken = inline_broken declared; breaks = inline_breaks declared }

-- ---- the knot

module _ (t : Tables) (own : (class : ℕ) → AreOf t (own_members t class).required × AreOf t (own_members t class).optional) (reach : Reach) (limit : ℕ) where
  pub references_tell : (more : ℕ) (at : Option ℕ) → Tells seen (Room limit more) ((instances t reach limit more).read at) (InstancesBreak t reach limit more at)
  references_tell zero at = inline_tells limit (λ s r. nowhere r) (λ from. Never) (Room limit zero) (λ s. ⊥) (λ declared s good there. omega (arith, good, there))
      (record { broken = λ s r e good fits h. absurd good; breaks = λ s r e h. absurd h }) at
  references_tell (suc more) at =
      inline_tells limit (instance_at (instances t reach limit more).read t reach) (InstanceBreaks (instances t reach limit more) (InstancesBreak t reach limit more) t reach) (Room limit (suc more)) (Room limit more)
      (λ declared s good there. omega (arith, good, length-append s.instances ([] ∷ [])))
      (instance_tells limit more (instances t reach limit more) (instances_seen t reach limit more) (instances_lawful t reach limit more) (port_keeps limit more t reach limit more) (InstancesBreak t reach limit more) (references_tell more) t own reach) at
