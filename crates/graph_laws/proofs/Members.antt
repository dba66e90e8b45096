-- A fault of the members of a shape is read exactly where they have the defect, by that of a reference.
use Rattle.std.proofs.Common.{◌≡◌, ℕ, zero, suc, ◌+◌, ◌≤◌, ◌<◌, ◌⊎◌, Bool, true, false, eqb, List, [], ◌∷◌, ◌++◌, length, Option, None, Some, Result, Ok, refl, sym, ap, subst, ◌∙◌, inl, inr, arith}
use Rattle.std.specs.Prelude.{if◌then◌else◌, map}
use Rattle.std.proofs.lemmas.Bool.{eqb-false}
use Rattle.std.proofs.lemmas.List.{length-append}
use Rattle.std.proofs.lemmas.List.Elements.{All-head, All-tail}
use Rattle.ice_types.specs.declared.declarations.Member.{Member}
use Rattle.ice_types.specs.declared.declarations.Shape.{Shape}
use Rattle.ice_types.specs.declared.kind.TypeRef.{TypeRef}
use Rattle.ice_types.specs.declared.optional_format.TheConstants.{FORMAT_CLASS, FORMAT_VSIZE, FORMAT_FSIZE}
use Rattle.ice_types.specs.declared.schema.TheConstants.{MOST_DEPTH}
use Rattle.ice_types.specs.Fits.{IsOf, AreOf}
use Rattle.ice_types.specs.Formats.{optional_format}
use Rattle.ice_types.specs.Tables.{Tables}
use Rattle.ice_prims.specs.declared.fault.Fault.{Fault}
use Rattle.ice_prims.specs.declared.fault.Kind.TheVariants.{BadFormat}
use Rattle.ice_prims.specs.Rest.{Rest, Took, IsBytes}
use Rattle.ice_prims.proofs.Parts.{Took-fits, then_ok}
use Rattle.ice_encoding.specs.Port.{Port, IsLawful, Reader, Speller}
use Rattle.ice_encoding.specs.Reading.{made, each_at, value_at}
use Rattle.ice_encoding.specs.Skipping.{passed_at}
use Rattle.ice_encoding.specs.Spelling.{Each, SpellsValue}
use Rattle.ice_encoding.specs.Tags.{next_tag_at}
use Rattle.ice_encoding.specs.Tree.{Tree}
use Rattle.ice_encoding.proofs.Passed.{passed_found, passed_only}
use Rattle.ice_encoding.proofs.Values.{Lawful, lands, made_lawful, each_lawful, value_lawful}
use Rattle.ice_encoding.specs.OptionalMembers.{with_optional, required_kinds, members_by, content_at, if_flagged, IfFlagged, slice_members_at, SpellsSliceMembers}
use Rattle.ice_encoding.specs.Optionals.{Present, with_option, not_unknown, kind_tagged, passed_over, PassedOver, skipped_by, SkippedBy, tagged, Tagged, Options, option_then, options_at, AllOptions, all_options}
use Rattle.ice_encoding.specs.Prefixes.{Prefix, no_length, own_size, as_size, as_int, counts_itself, prefix_of, framed, Framed}
use Rattle.ice_encoding.specs.Steps as steps
use Rattle.ice_encoding.proofs.Nexts.{Next, IsNext, next_found, tag_only, tag_long, tag_format}
use Rattle.ice_encoding.proofs.OwnSizes.{itself_long}
use Rattle.ice_encoding.proofs.Prefixed.{framed_lawful}
use Rattle.ice_encoding.proofs.Stepping.{tested_lawful}
use Rattle.graph_laws.specs.Defects.{Defect, At}
use Rattle.graph_laws.specs.Members.{FramedBreaks, PassBreaks, SkippedBreaks, TaggedBreaks, OptionsBreak, AllOptionsBreak, MembersBreak, ContentBreaks, IfFlaggedBreaks, SliceMembersBreak}
use Rattle.graph_laws.specs.Values.{ValueBreaks, EachBreaks}
use Rattle.graph_laws.proofs.Bounds.{framed_tells, pass_agrees}
use Rattle.graph_laws.proofs.Breaking.{failed, same_err, no_err, then_err}
use Rattle.graph_laws.proofs.From.{goes, stops, Tells, Keeps, made_tells, followed_tells}
use Rattle.graph_laws.proofs.Tags.{next_agrees}
use Rattle.graph_laws.proofs.Values.{AllKnown, each_tells, each_keeps, value_keeps, value_tells}

-- ---- what stands behind a tag is read exactly where it is spelled

own_counts : (itself vsize fsize : Bool) → (if vsize then (if itself then own_size else as_size) else (if fsize then as_int else no_length)) ≡ own_size → itself ≡ true
own_counts true vsize fsize e = refl
own_counts false true fsize e = absurd (differ e)
  where
    differ : as_size ≡ own_size → ⊥
    differ e = cc
own_counts false false true e = absurd (differ e)
  where
    differ : as_int ≡ own_size → ⊥
    differ e = cc
own_counts false false false e = absurd (differ e)
  where
    differ : no_length ≡ own_size → ⊥
    differ e = cc

-- the member of a tag is of a type of the tables
tagged_is : (t : Tables) (number : ℕ) (members : List Member) → AreOf t members → (kind : TypeRef) → kind_tagged number members ≡ Some kind → IsOf t kind
tagged_is t number [] are kind e = absurd cc
tagged_is t number (m ∷ ms) are kind e = by_tag (λ rest. tagged_is t number ms (All-tail (λ d. IsOf t d.kind) m ms are) kind rest) m.tag e
  where
    by_number : (kind_tagged number ms ≡ Some kind → IsOf t kind) → (b : Bool) → (if b then Some m.kind else kind_tagged number ms) ≡ Some kind → IsOf t kind
    by_number later true e = let same : m.kind ≡ kind = cc in subst (IsOf t) same (All-head (λ d. IsOf t d.kind) m ms are)
    by_number later false e = later e

    by_tag : (kind_tagged number ms ≡ Some kind → IsOf t kind) → (o : Option ℕ) → (elim o [ None ↦ kind_tagged number ms | Some other ↦ if eqb number other then Some m.kind else kind_tagged number ms ]) ≡ Some kind → IsOf t kind
    by_tag later None e = later e
    by_tag later (Some other) e = by_number later (eqb number other) e

-- ---- what is spelled leads on

module _ {R S : Type 0} (port : Port R S) (Good : S → Type 0) (keeps : (at : Option ℕ) → Keeps Good (port.Spells at)) (t : Tables) where
  framed_keeps : {A : Type 0} (Spells : Speller S A) → Keeps Good Spells → (p : Prefix) → Keeps Good (Framed p Spells)
  framed_keeps Spells one no_length bytes x from to h good = one bytes x from to h good
  framed_keeps Spells one own_size bytes x from to h good = one bytes x from to h good
  framed_keeps Spells one as_size bytes x from to h good = one h.1 x from to h.4 good
  framed_keeps Spells one as_int bytes x from to h good = one h.1 x from to h.4 good

  skipped_keeps : (reference : Bool) (format : ℕ) → Keeps Good (SkippedBy port t reference format)
  skipped_keeps true format bytes x from to h good = keeps None bytes h.0 from to h.2 good
  skipped_keeps false format bytes x from to h good = subst Good (sym h.2) good

  tagged_keeps : (kind : Option TypeRef) (format : ℕ) → Keeps Good (Tagged port t kind format)
  tagged_keeps None format bytes x from to h good = skipped_keeps (eqb format FORMAT_CLASS) format bytes x from to h good
  tagged_keeps (Some kind) format bytes x from to h good = framed_keeps (SpellsValue port t MOST_DEPTH kind) (value_keeps port Good keeps t MOST_DEPTH kind) (prefix_of t kind) bytes h.1.0 from to h.1.2 good

  options_keep : (marked : Bool) (members : List Member) (n : ℕ) (last : Option ℕ) → Keeps Good (Options port t marked members n last)
  options_keep marked members zero last bytes x from to h good = subst Good (sym h.2) good
  options_keep marked members (suc n) last bytes x from to (number, format, v, others, front, a, b, mid, parts, is_tag, rise, is_value, is_list, rest) good =
      options_keep marked members n (Some number) b others mid to rest (tagged_keeps (kind_tagged number members) format a v from mid is_value good)

  if_flagged_keeps : (flagged : Bool) (members : List Member) → Keeps Good (IfFlagged port t flagged (AllOptions port t true members))
  if_flagged_keeps true members bytes x from to h good = options_keep true members h.0 None bytes x from to h.1 good
  if_flagged_keeps false members bytes x from to h good = subst Good (sym h.2) good

  pub slice_members_keep : (flagged : Bool) (shape : Shape) → Keeps Good (SpellsSliceMembers port t flagged shape)
  slice_members_keep flagged shape bytes x from to h good =
      if_flagged_keeps flagged shape.optional h.2 h.6.0 h.3 to h.6.2 (each_keeps Good (SpellsValue port t MOST_DEPTH) (value_keeps port Good keeps t MOST_DEPTH) (required_kinds shape) h.1 h.0 from h.3 h.5 good)

-- ---- behind a tag

module _ {R S : Type 0} (port : Port R S) (lawful : IsLawful port) (Good : S → Type 0) (keeps : (at : Option ℕ) → Keeps Good (port.Spells at)) (ReferenceBreaks : Option ℕ → S → Defect)
    (refer : (at : Option ℕ) → Tells port.seen Good (port.read at) (ReferenceBreaks at)) (t : Tables) where
  abbrev Told : {A : Type 0} → Reader R A → (S → Defect) → Type 0
  Told read Breaks = Tells port.seen Good read Breaks

  passed_lawful : (format : ℕ) → format ≤ 6 → Lawful port.seen (passed_over port.read t format) (PassedOver port t format)
  passed_lawful format small = record {
    found = λ s r x fits e. then_ok (passed_at format r) (λ behind. Ok (None, s, behind)) x e λ behind is last.
        let f = passed_found format r behind small fits is in
        lands port.seen (PassedOver port t format) s r (None, s, behind) x f.0 f.1 (f.2, refl, refl) last;
    only = λ s to r after bytes v k h. (s, sym h.2, rw (passed_only format r after bytes k h.0, h.1) refl);
  }

  skipped_lawful : (reference : Bool) (format : ℕ) → eqb format FORMAT_CLASS ≡ reference → format ≤ 7 → Lawful port.seen (skipped_by port.read t reference format) (SkippedBy port t reference format)
  skipped_lawful true format test small = made_lawful port.seen not_unknown _ _ (record { found = lawful.found None; only = lawful.only None })
  skipped_lawful false format test small = passed_lawful format (other (eqb-false format 7 test) small)
    where
      other : (format ≡ 7 → ⊥) → format ≤ 7 → format ≤ 6
      other differs small = omega (arith, differs, small)

  tagged_lawful : (place : ℕ) (kind : Option TypeRef) (format : ℕ) → format ≤ 7 → Lawful port.seen (tagged port.read t place kind format) (Tagged port t kind format)
  tagged_lawful place None format small = skipped_lawful (eqb format FORMAT_CLASS) format refl small
  tagged_lawful place (Some kind) format small = tested_lawful port.seen (eqb format (optional_format t kind)) place BadFormat _ _
      (made_lawful port.seen Some _ _ (framed_lawful port.seen (value_at port.read t 100 kind) (SpellsValue port t 100 kind) (value_lawful port lawful t 100 kind) (prefix_of t kind)
      (λ own. itself_long port t 100 kind (own_counts (counts_itself t kind) (eqb (optional_format t kind) FORMAT_VSIZE) (eqb (optional_format t kind) FORMAT_FSIZE) own))))

  -- ---- and a fault of it where it has the defect

  value_told : (kind : TypeRef) → IsOf t kind → Told (value_at port.read t MOST_DEPTH kind) (ValueBreaks port ReferenceBreaks t MOST_DEPTH kind)
  value_told kind is = value_tells port lawful Good keeps ReferenceBreaks refer t MOST_DEPTH kind is.0 is.1

  passed_tells : (format : ℕ) → Told (passed_over port.read t format) (λ from. PassBreaks format)
  passed_tells format = record {
    broken = λ s r e good fits h. then_err (passed_at format r) (λ behind. Ok (None, s, behind)) e h (λ bad. (pass_agrees format).broken r e fits bad) (λ behind is later. no_err (None, s, behind) e later);
    breaks = λ s r e h. stops (passed_at format r) (λ behind. Ok (None, s, behind)) e ((pass_agrees format).breaks r e h);
  }

  skipped_tells : (reference : Bool) (format : ℕ) → Told (skipped_by port.read t reference format) (SkippedBreaks port ReferenceBreaks t reference format)
  skipped_tells true format = made_tells port.seen Good not_unknown _ _ (refer None)
  skipped_tells false format = passed_tells format

  module _ {A : Type 0} (read : Reader R A) (Breaks : S → Defect) (told : Told read Breaks) (place : ℕ) where
    abbrev Tested : Bool → S → Defect
    Tested test = λ from at bytes fault. ((test ≡ false) × At place BadFormat fault) ⊎ ((test ≡ true) × Breaks from at bytes fault)

    tested_broken : (test : Bool) (s : R) (r : Rest) (e : Fault) → Good (port.seen s) → IsBytes r.bytes → steps.tested test place BadFormat read s r ≡ failed e → Tested test (port.seen s) r.place r.bytes e
    tested_broken true s r e good fits h = inr (refl, told.broken s r e good fits h)
    tested_broken false s r e good fits h = inl (refl, sym (same_err (record { place = place; kind = BadFormat }) e h))

    tested_breaks : (test : Bool) (s : R) (r : Rest) (e : Fault) → Tested test (port.seen s) r.place r.bytes e → steps.tested test place BadFormat read s r ≡ failed e
    tested_breaks true s r e (inl h) = absurd (differ h.0)
      where
        differ : true ≡ false → ⊥
        differ e = cc
    tested_breaks true s r e (inr h) = told.breaks s r e h.1
    tested_breaks false s r e (inl h) = rw h.1 refl
    tested_breaks false s r e (inr h) = absurd (differ h.0)
      where
        differ : false ≡ true → ⊥
        differ e = cc

  tagged_tells : (place : ℕ) (kind : Option TypeRef) (format : ℕ) → ((k : TypeRef) → kind ≡ Some k → IsOf t k) → Told (tagged port.read t place kind format) (TaggedBreaks port ReferenceBreaks t place kind format)
  tagged_tells place None format is = skipped_tells (eqb format FORMAT_CLASS) format
  tagged_tells place (Some kind) format is = record { broken = tested_broken _ _ told place (eqb format (optional_format t kind)); breaks = tested_breaks _ _ told place (eqb format (optional_format t kind)) }
    where
      told : Told (made Some (framed (prefix_of t kind) (value_at port.read t MOST_DEPTH kind))) (FramedBreaks (prefix_of t kind) (SpellsValue port t MOST_DEPTH kind) (ValueBreaks port ReferenceBreaks t MOST_DEPTH kind))
      told = made_tells port.seen Good Some _ _ (framed_tells port.seen Good (value_at port.read t MOST_DEPTH kind) (SpellsValue port t MOST_DEPTH kind) (value_lawful port lawful t MOST_DEPTH kind)
          (ValueBreaks port ReferenceBreaks t MOST_DEPTH kind) (value_told kind (is kind refl)) (prefix_of t kind))

  -- ---- one after the other

  module _ (marked : Bool) (members : List Member) (are : AreOf t members) where
    abbrev reads : ℕ → Option ℕ → Reader R Present
    reads = options_at port.read t marked members

    abbrev go_on : ℕ → R → Rest → Next × Rest → Result (Present × R × Rest) Fault
    go_on steps s r next = option_then port.read t marked members (reads steps) r.place next.0 s next.1

    abbrev behind_value : ℕ → ℕ × ℕ → Option Tree × R × Rest → Result (Present × R × Rest) Fault
    behind_value steps it v = made (with_option it.0 v.0) (reads steps (Some it.0)) v.1 v.2

    abbrev Broken : Option ℕ → S → ℕ → List ℕ → Fault → Type 0
    Broken last from place bytes fault = (n : ℕ) × OptionsBreak port ReferenceBreaks t marked members n last from place bytes fault

    told_of : (place number format : ℕ) → Told (tagged port.read t place (kind_tagged number members) format) (TaggedBreaks port ReferenceBreaks t place (kind_tagged number members) format)
    told_of place number format = tagged_tells place (kind_tagged number members) format (λ k is. tagged_is t number members are k is)

    option_broken : (steps : ℕ) (last : Option ℕ) → ((last : Option ℕ) (s : R) (r : Rest) (e : Fault) → length r.bytes < steps → Good (port.seen s) → IsBytes r.bytes → reads steps last s r ≡ failed e → Broken last (port.seen s) r.place r.bytes e)
        → (s : R) (r : Rest) (e : Fault) (next : Next × Rest) (front : List ℕ) → length r.bytes < suc steps → Good (port.seen s) → IsBytes r.bytes → Took r front next.1 → IsNext marked last front next.0 → go_on steps s r next ≡ failed e → Broken last (port.seen s) r.place r.bytes e
    option_broken steps last later s r e (None, m) front few good fits took is h = no_err ([], s, m) e h
    option_broken steps last later s r e (Some it, m) front few good fits took is h =
        let left = (Took-fits r m front fits took).1 in
        then_err (tagged port.read t r.place (kind_tagged it.0 members) it.1 s m) (behind_value steps it) e h
        (λ bad. (0, inr (it.0, it.1, front, m.bytes, took.parts, is.0, is.1, subst (λ (p : ℕ). TaggedBreaks port ReferenceBreaks t r.place (kind_tagged it.0 members) it.1 (port.seen s) p m.bytes e) took.moved ((told_of r.place it.0 it.1).broken s m e good left bad))))
        (λ v v_is more.
        then_err (reads steps (Some it.0) v.1 v.2) (λ y. Ok (with_option it.0 v.0 y.0, y.1, y.2)) e more
        (λ bad.
        let f = (tagged_lawful r.place (kind_tagged it.0 members) it.1 (tag_format front it is.0)).found s m v left v_is in
        let parts : r.bytes ≡ front ++ (f.0 ++ v.2.bytes) = took.parts ∙ ap (λ (z : List ℕ). front ++ z) f.1.parts in
        let fewer : length v.2.bytes < steps = omega (arith, few, ap length parts, length-append front (f.0 ++ v.2.bytes), length-append f.0 v.2.bytes, tag_long front it is.0) in
        let d = later (Some it.0) v.1 v.2 e fewer (tagged_keeps port Good keeps t (kind_tagged it.0 members) it.1 f.0 v.0 (port.seen s) (port.seen v.1) f.2 good) ((Took-fits m v.2 f.0 left f.1).1) bad in
        let place : v.2.place ≡ r.place + length front + length f.0 = f.1.moved ∙ ap (λ (p : ℕ). p + length f.0) took.moved in
        (suc d.0, (it.0, it.1, v.0, port.seen v.1, front, f.0, v.2.bytes, parts, is.0, is.1, f.2, subst (λ (p : ℕ). OptionsBreak port ReferenceBreaks t marked members d.0 (Some it.0) (port.seen v.1) p v.2.bytes e) place d.1)))
        (λ y y_is done. no_err (with_option it.0 v.0 y.0, y.1, y.2) e done))

    options_broken : (steps : ℕ) (last : Option ℕ) (s : R) (r : Rest) (e : Fault) → length r.bytes < steps → Good (port.seen s) → IsBytes r.bytes → reads steps last s r ≡ failed e → Broken last (port.seen s) r.place r.bytes e
    options_broken zero last s r e few good fits h = absurd (omega (arith, few))
    options_broken (suc steps) last s r e few good fits h = then_err (next_tag_at last marked r) (go_on steps s r) e h
        (λ bad. (0, inl ((next_agrees marked last).broken r e fits bad)))
        (λ next next_is later.
        let f = next_found marked last r next fits next_is in
        option_broken steps last (options_broken steps) s r e next f.0 few good fits f.1 f.2 later)

    options_break : (n steps : ℕ) (last : Option ℕ) (s : R) (r : Rest) (e : Fault) → length r.bytes < steps → OptionsBreak port ReferenceBreaks t marked members n last (port.seen s) r.place r.bytes e → reads steps last s r ≡ failed e
    options_break zero zero last s r e few h = absurd (omega (arith, few))
    options_break zero (suc steps) last s r e few (inl h) = stops (next_tag_at last marked r) (go_on steps s r) e ((next_agrees marked last).breaks r e h)
    options_break zero (suc steps) last s r e few (inr (number, format, front, rest, parts, is_tag, rise, h)) =
        let m : Rest = record { place = r.place + length front; bytes = rest } in
        goes (next_tag_at last marked r) (go_on steps s r) (Some (number, format), m) (tag_only marked last r m front (number, format) (record { parts = parts; moved = refl }) is_tag rise)
        ∙ stops (tagged port.read t r.place (kind_tagged number members) format s m) (behind_value steps (number, format)) e ((told_of r.place number format).breaks s m e h)
    options_break (suc n) zero last s r e few h = absurd (omega (arith, few))
    options_break (suc n) (suc steps) last s r e few (number, format, v, mid, front, a, rest, parts, is_tag, rise, is_value, h) =
        let m : Rest = record { place = r.place + length front; bytes = a ++ rest } in
        let q : Rest = record { place = r.place + length front + length a; bytes = rest } in
        let o = (tagged_lawful r.place (kind_tagged number members) format (tag_format front (number, format) is_tag)).only s mid m q a v (record { parts = refl; moved = refl }) is_value in
        let fewer : length rest < steps = omega (arith, few, ap length parts, length-append front (a ++ rest), length-append a rest, tag_long front (number, format) is_tag) in
        goes (next_tag_at last marked r) (go_on steps s r) (Some (number, format), m) (tag_only marked last r m front (number, format) (record { parts = parts; moved = refl }) is_tag rise)
        ∙ goes (tagged port.read t r.place (kind_tagged number members) format s m) (behind_value steps (number, format)) (v, o.0, q) o.2
        ∙ stops (reads steps (Some number) o.0 q) (λ y. Ok (with_option number v y.0, y.1, y.2)) e
        (options_break n steps (Some number) o.0 q e fewer (subst (λ (u : S). OptionsBreak port ReferenceBreaks t marked members n (Some number) u q.place rest e) (sym o.1) h))

    pub all_options_tell : Told (all_options port.read t marked members) (AllOptionsBreak port ReferenceBreaks t marked members)
    all_options_tell = record {
      broken = λ s r e good fits h. options_broken (suc (length r.bytes)) None s r e (omega arith) good fits h;
      breaks = λ s r e h. options_break h.0 (suc (length r.bytes)) None s r e (omega arith) h.1;
    }

  -- ---- all members

  required_known : (ms : List Member) → AreOf t ms → AllKnown port.seen Good (value_at port.read t MOST_DEPTH) (SpellsValue port t MOST_DEPTH) (ValueBreaks port ReferenceBreaks t MOST_DEPTH) (map (λ m. m.kind) ms)
  required_known [] are = tt
  required_known (m ∷ ms) are = (
    record {
      law = value_lawful port lawful t MOST_DEPTH m.kind;
      keeps = value_keeps port Good keeps t MOST_DEPTH m.kind;
      tells = value_told m.kind (All-head (λ d. IsOf t d.kind) m ms are);
    },
    required_known ms (All-tail (λ d. IsOf t d.kind) m ms are),
  )

  module _ (shape : Shape) (required : AreOf t shape.required) (optional : AreOf t shape.optional) where
    members_tell : (read : Reader R Present) (Breaks : S → Defect) → Told read Breaks → Told (members_by port.read t read shape) (MembersBreak port ReferenceBreaks t Breaks shape)
    members_tell read Breaks told =
        followed_tells port.seen Good (each_at (value_at port.read t MOST_DEPTH) (required_kinds shape)) (Each (SpellsValue port t MOST_DEPTH) (required_kinds shape))
        (each_lawful port.seen (value_at port.read t MOST_DEPTH) (SpellsValue port t MOST_DEPTH) (value_lawful port lawful t MOST_DEPTH) (required_kinds shape))
        (each_keeps Good (SpellsValue port t MOST_DEPTH) (value_keeps port Good keeps t MOST_DEPTH) (required_kinds shape))
        (EachBreaks (SpellsValue port t MOST_DEPTH) (ValueBreaks port ReferenceBreaks t MOST_DEPTH) (required_kinds shape))
        (each_tells port.seen Good (value_at port.read t MOST_DEPTH) (SpellsValue port t MOST_DEPTH) (ValueBreaks port ReferenceBreaks t MOST_DEPTH) (required_kinds shape) (required_known shape.required required))
        (λ values. made (with_optional values) read) (λ values. Breaks) (λ values. made_tells port.seen Good (with_optional values) read Breaks told)

    pub content_tells : Told (content_at port.read t shape) (ContentBreaks port ReferenceBreaks t shape)
    content_tells = members_tell (all_options port.read t false shape.optional) (AllOptionsBreak port ReferenceBreaks t false shape.optional) (all_options_tell false shape.optional optional)

    flagged_tells : (flagged : Bool) → Told (if_flagged port.read t flagged (all_options port.read t true shape.optional)) (IfFlaggedBreaks port ReferenceBreaks t flagged (AllOptionsBreak port ReferenceBreaks t true shape.optional))
    flagged_tells true = all_options_tell true shape.optional optional
    flagged_tells false = record { broken = λ s r e good fits h. no_err ([], s, r) e h; breaks = λ s r e h. absurd h }

    pub slice_members_tell : (flagged : Bool) → Told (slice_members_at port.read t flagged shape) (SliceMembersBreak port ReferenceBreaks t flagged shape)
    slice_members_tell flagged = members_tell (if_flagged port.read t flagged (all_options port.read t true shape.optional)) (IfFlaggedBreaks port ReferenceBreaks t flagged (AllOptionsBreak port ReferenceBreaks t true shape.optional)) (flagged_tells flagged)
