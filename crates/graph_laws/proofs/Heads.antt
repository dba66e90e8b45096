-- The head of a slice is refused exactly where it has the defect.
use Rattle.std.proofs.Common.{◌≡◌, ℕ, suc, ◌+◌, Bool, true, false, List, ◌++◌, length, Option, Ok, refl, sym, ap, subst, ◌∙◌}
use Rattle.ice_types.specs.Tables.{Tables}
use Rattle.ice_prims.specs.declared.fault.Fault.{Fault}
use Rattle.ice_prims.specs.declared.fault.Kind.TheVariants.{WrongBase, UnknownClass, BadLast}
use Rattle.ice_prims.specs.Rest.{Rest, ◌>>=◌, IsBytes}
use Rattle.ice_prims.proofs.Parts.{Took-fits}
use Rattle.ice_encoding.specs.Port.{Reader}
use Rattle.ice_encoding.specs.Reading.{plain, made}
use Rattle.ice_encoding.specs.Steps.{followed}
use Rattle.ice_encoding.specs.Steps as steps
use Rattle.ice_encoding.specs.Graph.{Slice}
use Rattle.ice_encoding.specs.References.{State, seen}
use Rattle.ice_encoding.specs.Flags.{Flags, Reach, Before, may_stand, flags_at}
use Rattle.ice_encoding.specs.TypeIds.{id_at, class_in, is_base, can_be_read, ends_well, before_next}
use Rattle.ice_encoding.specs.Slices.{one_more, body_at, next_slices, from_id, slices_at}
use Rattle.ice_encoding.proofs.Slices.{flags_lawful}
use Rattle.graph_laws.specs.Defects.{At}
use Rattle.graph_laws.specs.Heads.{IdBreaks, Head, HeadBreaks, bad_flags, bad_id, wrong_base, unknown_class, bad_last, HeadStands}
use Rattle.graph_laws.proofs.Breaking.{failed, same_err, then_err}
use Rattle.graph_laws.proofs.From.{goes, stops, plain_err, plain_is}
use Rattle.graph_laws.proofs.Ids.{flags_agree, id_tells, id_lawful}

-- ---- three tests, one after the other

module _ {R A : Type 0} (read : Reader R A) (id_place flags_place : ℕ) (s : R) (r : Rest) (e : Fault) where
  abbrev three : Bool → Bool → Bool → Reader R A
  three a b c = steps.tested a id_place WrongBase (steps.tested b id_place UnknownClass (steps.tested c flags_place BadLast read))

  tests_err : {C : Type 0} (a b c : Bool) → three a b c s r ≡ failed e → (a ≡ false → At id_place WrongBase e → C) → (a ≡ true → b ≡ false → At id_place UnknownClass e → C)
      → (a ≡ true → b ≡ true → c ≡ false → At flags_place BadLast e → C) → (a ≡ true → b ≡ true → c ≡ true → read s r ≡ failed e → C) → C
  tests_err false b c h one two three behind = one refl (sym (same_err (record { place = id_place; kind = WrongBase }) e h))
  tests_err true false c h one two three behind = two refl refl (sym (same_err (record { place = id_place; kind = UnknownClass }) e h))
  tests_err true true false h one two three behind = three refl refl refl (sym (same_err (record { place = flags_place; kind = BadLast }) e h))
  tests_err true true true h one two three behind = behind refl refl refl h

  no_base : (a b c : Bool) → a ≡ false → At id_place WrongBase e → three a b c s r ≡ failed e
  no_base a b c fails at = rw (fails, at) refl

  not_known : (a b c : Bool) → a ≡ true → b ≡ false → At id_place UnknownClass e → three a b c s r ≡ failed e
  not_known a b c holds fails at = rw (holds, fails, at) refl

  not_last : (a b c : Bool) → a ≡ true → b ≡ true → c ≡ false → At flags_place BadLast e → three a b c s r ≡ failed e
  not_last a b c holds so fails at = rw (holds, so, fails, at) refl

  pass : (a b c : Bool) → a ≡ true → b ≡ true → c ≡ true → three a b c s r ≡ read s r
  pass a b c holds so and = rw (holds, so, and) refl

-- ---- a head, and what stands behind it

module _ (refer : Option ℕ → Reader (State ℕ) (Option ℕ)) (t : Tables) (reach : Reach) (count : ℕ) (before : Before) where
  -- what stands behind the tests
  abbrev pub behind_tests : Flags → List ℕ → Reader (State ℕ) (List Slice)
  behind_tests f id = followed (body_at refer t f id f.has_size (class_in t before id)) (λ slice. made (one_more slice) (next_slices refer t (slices_at refer t reach count) f.is_last (before_next t (class_in t before id) f)))

  abbrev behind_id : ℕ → Flags → ℕ → List ℕ → Reader (State ℕ) (List Slice)
  behind_id flags_place f id_place id = let class = class_in t before id in
      from_id refer t reach (next_slices refer t (slices_at refer t reach count) f.is_last (before_next t class f)) (ends_well t class f) before f flags_place id_place id class

  abbrev behind_flags : ℕ → Flags → Reader (State ℕ) (List Slice)
  behind_flags flags_place f s r = id_at f.id s r >>= λ id. behind_id flags_place f r.place id.0 id.1 id.2

  -- where reading stands behind a head
  pub record Passed (s : State ℕ) (r : Rest) (h : Head before (seen s) r.bytes) : Type 0 where
    pub state : State ℕ
    pub rest : Rest
    pub mid : seen state ≡ h.mid
    pub left : rest.bytes ≡ h.rest
    pub place : rest.place ≡ r.place + length h.front + length h.back
    pub reads : slices_at refer t reach (suc count) before s r ≡ behind_id r.place h.flags (r.place + length h.front) h.id state rest

  pub passes : (s : State ℕ) (r : Rest) (h : Head before (seen s) r.bytes) → Passed s r h
  passes s r h =
      let m : Rest = record { place = r.place + length h.front; bytes = h.back ++ h.rest } in
      let q : Rest = record { place = r.place + length h.front + length h.back; bytes = h.rest } in
      let flags_is = (flags_lawful (may_stand before)).only r m h.front h.flags (record { parts = h.parts; moved = refl }) h.spells_flags in
      let o = (id_lawful h.flags.id).only s h.mid m q h.back h.id (record { parts = refl; moved = refl }) h.spells_id in
      record {
        state = o.0;
        rest = q;
        mid = o.1;
        left = refl;
        place = refl;
        reads = goes (plain (flags_at (may_stand before)) s r) (λ x. behind_flags r.place x.0 x.1 x.2) (h.flags, s, m) (plain_is (flags_at (may_stand before)) s r (h.flags, m) flags_is)
            ∙ goes (id_at h.flags.id s m) (λ id. behind_id r.place h.flags m.place id.0 id.1 id.2) (h.id, o.0, q) o.2;
      }

  abbrev Breaks : State ℕ → Rest → Fault → Type 0
  Breaks s r e = HeadBreaks t reach before (seen s) r.place r.bytes e

  pub head_broken : {C : Type 0} (s : State ℕ) (r : Rest) (e : Fault) → IsBytes r.bytes → slices_at refer t reach (suc count) before s r ≡ failed e → (Breaks s r e → C)
      → ((h : HeadStands t reach before (seen s) r.bytes) (q : State ℕ) (m : Rest) → seen q ≡ h.head.mid → m.bytes ≡ h.head.rest → m.place ≡ r.place + length h.head.front + length h.head.back → IsBytes m.bytes → behind_tests h.head.flags h.head.id q m ≡ failed e → C) → C
  head_broken s r e fits h here behind =
      plain_err (flags_at (may_stand before) r) s (λ x. behind_flags r.place x.0 x.1 x.2) e h
      (λ bad. here (bad_flags ((flags_agree (may_stand before)).broken r e fits bad)))
      (λ x x_is later.
      let f = (flags_lawful (may_stand before)).found r x fits x_is in
      let left = (Took-fits r x.1 f.0 fits f.1).1 in
      then_err (id_at x.0.id s x.1) (λ id. behind_id r.place x.0 x.1.place id.0 id.1 id.2) e later
      (λ bad. here (bad_id x.0 f.0 x.1.bytes f.1.parts f.2 (subst (λ (p : ℕ). IdBreaks x.0.id (seen s) p x.1.bytes e) f.1.moved ((id_tells (λ u. Unit {0}) x.0.id).broken s x.1 e tt left bad))))
      (λ id id_is last.
      let g = (id_lawful x.0.id).found s x.1 id left id_is in
      let parts : r.bytes ≡ f.0 ++ (g.0 ++ id.2.bytes) = f.1.parts ∙ ap (λ (z : List ℕ). f.0 ++ z) g.1.parts in
      let head : Head before (seen s) r.bytes = record { flags = x.0; id = id.0; front = f.0; back = g.0; rest = id.2.bytes; mid = seen id.1; parts = parts; spells_flags = f.2; spells_id = g.2 } in
      let class = class_in t before id.0 in
      tests_err (behind_tests x.0 id.0) x.1.place r.place id.1 id.2 e (is_base before class) (can_be_read reach class x.0) (ends_well t class x.0) last
      (λ fails at. here (wrong_base head fails (subst (λ (p : ℕ). At p WrongBase e) f.1.moved at)))
      (λ holds fails at. here (unknown_class head holds fails (subst (λ (p : ℕ). At p UnknownClass e) f.1.moved at)))
      (λ holds so fails at. here (bad_last head holds so fails at))
      (λ holds so well more. behind (record { head = head; is_base = holds; can_be_read = so; ends_well = well }) id.1 id.2 refl refl (g.1.moved ∙ ap (λ (p : ℕ). p + length g.0) f.1.moved) ((Took-fits x.1 id.2 g.0 left g.1).1) more)))

  pub head_breaks : (s : State ℕ) (r : Rest) (e : Fault) → Breaks s r e → slices_at refer t reach (suc count) before s r ≡ failed e
  head_breaks s r e (bad_flags h) = stops (plain (flags_at (may_stand before)) s r) (λ x. behind_flags r.place x.0 x.1 x.2) e (stops (flags_at (may_stand before) r) (λ x. Ok (x.0, s, x.1)) e ((flags_agree (may_stand before)).breaks r e h))
  head_breaks s r e (bad_id f front rest parts spells h) =
      let m : Rest = record { place = r.place + length front; bytes = rest } in
      let flags_is = (flags_lawful (may_stand before)).only r m front f (record { parts = parts; moved = refl }) spells in
      goes (plain (flags_at (may_stand before)) s r) (λ x. behind_flags r.place x.0 x.1 x.2) (f, s, m) (plain_is (flags_at (may_stand before)) s r (f, m) flags_is)
      ∙ stops (id_at f.id s m) (λ id. behind_id r.place f m.place id.0 id.1 id.2) e ((id_tells (λ u. Unit {0}) f.id).breaks s m e h)
  head_breaks s r e (wrong_base h fails at) =
      let p = passes s r h in let class = class_in t before h.id in
      p.reads ∙ no_base (behind_tests h.flags h.id) (r.place + length h.front) r.place p.state p.rest e (is_base before class) (can_be_read reach class h.flags) (ends_well t class h.flags) fails at
  head_breaks s r e (unknown_class h holds fails at) =
      let p = passes s r h in let class = class_in t before h.id in
      p.reads ∙ not_known (behind_tests h.flags h.id) (r.place + length h.front) r.place p.state p.rest e (is_base before class) (can_be_read reach class h.flags) (ends_well t class h.flags) holds fails at
  head_breaks s r e (bad_last h holds so fails at) =
      let p = passes s r h in let class = class_in t before h.id in
      p.reads ∙ not_last (behind_tests h.flags h.id) (r.place + length h.front) r.place p.state p.rest e (is_base before class) (can_be_read reach class h.flags) (ends_well t class h.flags) holds so fails at

  -- behind a head that stands, what is behind it is read
  pub head_goes : (s : State ℕ) (r : Rest) (h : HeadStands t reach before (seen s) r.bytes) → slices_at refer t reach (suc count) before s r ≡ behind_tests h.head.flags h.head.id ((passes s r h.head).state) ((passes s r h.head).rest)
  head_goes s r h =
      let p = passes s r h.head in let class = class_in t before h.head.id in
      p.reads ∙ pass (behind_tests h.head.flags h.head.id) (r.place + length h.head.front) r.place p.state p.rest (record { place = 0; kind = BadLast }) (is_base before class) (can_be_read reach class h.head.flags) (ends_well t class h.head.flags) h.is_base h.can_be_read h.ends_well
