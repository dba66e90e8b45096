-- Optional members are read exactly where they are spelled, known ones and others.
use Rattle.std.proofs.Common.{◌≡◌, ℕ, zero, suc, ◌+◌, ◌<◌, ◌≤◌, Bool, true, false, eqb, if◌then◌else◌, List, [], ◌++◌, length, Option, Some, None, Ok, refl, sym, ap, subst, ◌∙◌, arith}
use Rattle.std.proofs.lemmas.Bool.{eqb-false}
use Rattle.std.proofs.lemmas.List.{length-append}
use Rattle.ice_types.specs.declared.kind.TypeRef.{TypeRef}
use Rattle.ice_types.specs.declared.declarations.Member.{Member}
use Rattle.ice_types.specs.declared.optional_format.TheConstants.{FORMAT_CLASS, FORMAT_VSIZE, FORMAT_FSIZE}
use Rattle.ice_types.specs.Tables.{Tables}
use Rattle.ice_types.specs.Formats.{optional_format}
use Rattle.ice_prims.specs.declared.fault.Kind.TheVariants.{BadFormat}
use Rattle.ice_prims.specs.Rest.{Rest, Took, IsBytes}
use Rattle.ice_prims.proofs.Parts.{then_ok, ok_is, Took-then, between, Took-fits}
use Rattle.ice_encoding.specs.Tags.{next_tag_at}
use Rattle.ice_encoding.specs.Skipping.{passed_at}
use Rattle.ice_encoding.proofs.Passed.{passed_found, passed_only}
use Rattle.ice_encoding.specs.Tree.{Tree}
use Rattle.ice_encoding.specs.Port.{Port, IsLawful, Reader, Speller, Found}
use Rattle.ice_encoding.specs.Spelling.{SpellsValue}
use Rattle.ice_encoding.specs.Reading.{made, value_at}
use Rattle.ice_encoding.proofs.Values.{Lawful, lands, made_lawful, value_lawful}
use Rattle.ice_encoding.specs.Prefixes.{no_length, own_size, as_size, as_int, counts_itself, prefix_of}
use Rattle.ice_encoding.specs.Optionals.{Present, with_option, not_unknown, kind_tagged, passed_over, PassedOver, skipped_by, SkippedBy, tagged, Tagged, Options, option_then, options_at, AllOptions, all_options}
use Rattle.ice_encoding.proofs.Stepping.{tested_lawful}
use Rattle.ice_encoding.proofs.Prefixed.{framed_lawful}
use Rattle.ice_encoding.proofs.OwnSizes.{itself_long}
use Rattle.ice_encoding.proofs.Nexts.{Next, IsNext, next_found, tag_only, tag_long, tag_format, end_only}

-- only a value that counts itself has its own size as its prefix
own_counts : (itself vsize fsize : Bool) → (if vsize then (if itself then own_size else as_size) else (if fsize then as_int else no_length)) ≡ own_size → itself ≡ true
own_counts true vsize fsize e = refl
own_counts false true fsize e = absurd (no e)
  where
    no : as_size ≡ own_size → ⊥
    no e = cc
own_counts false false true e = absurd (no e)
  where
    no : as_int ≡ own_size → ⊥
    no e = cc
own_counts false false false e = absurd (no e)
  where
    no : no_length ≡ own_size → ⊥
    no e = cc

module _ {R S : Type 0} (port : Port R S) (lawful : IsLawful port) (t : Tables) where
  abbrev pub Law : {A : Type 0} → Reader R A → Speller S A → Type 0
  Law read Spells = Lawful port.seen read Spells

  -- ---- what stands behind a tag

  passed_lawful : (format : ℕ) → format ≤ 6 → Law (passed_over port.read t format) (PassedOver port t format)
  passed_lawful format known = record {
    found = λ s r x fits e. then_ok (passed_at format r) (λ behind. Ok (None, s, behind)) x e λ behind is last.
        let f = passed_found format r behind known fits is in
        lands port.seen (PassedOver port t format) s r (None, s, behind) x f.0 f.1 (f.2, refl, refl) last;
    only = λ s to r after bytes v k h. (s, sym h.2, rw (passed_only format r after bytes k h.0, h.1) refl);
  }

  skipped_lawful : (reference : Bool) (format : ℕ) → eqb format FORMAT_CLASS ≡ reference → format ≤ 7 → Law (skipped_by port.read t reference format) (SkippedBy port t reference format)
  skipped_lawful true format test known = made_lawful port.seen not_unknown _ _ (record { found = lawful.found None; only = lawful.only None })
  skipped_lawful false format test known = passed_lawful format (other (eqb-false format 7 test) known)
    where
      other : (format ≡ 7 → ⊥) → format ≤ 7 → format ≤ 6
      other differs known = omega (arith, differs, known)

  tagged_lawful : (place : ℕ) (kind : Option TypeRef) (format : ℕ) → format ≤ 7 → Law (tagged port.read t place kind format) (Tagged port t kind format)
  tagged_lawful place None format known = skipped_lawful (eqb format FORMAT_CLASS) format refl known
  tagged_lawful place (Some kind) format known = tested_lawful port.seen (eqb format (optional_format t kind)) place BadFormat _ _
      (made_lawful port.seen Some _ _ (framed_lawful port.seen (value_at port.read t 100 kind) (SpellsValue port t 100 kind) (value_lawful port lawful t 100 kind) (prefix_of t kind)
      (λ own. itself_long port t 100 kind (own_counts (counts_itself t kind) (eqb (optional_format t kind) FORMAT_VSIZE) (eqb (optional_format t kind) FORMAT_FSIZE) own))))

  -- ---- one after the other

  module _ (marked : Bool) (members : List Member) where
    abbrev FoundOptions : Option ℕ → R → Rest → Present × R × Rest → Type 0
    FoundOptions last s r x = (bytes : List ℕ) × Took r bytes x.2 × ((n : ℕ) × Options port t marked members n last bytes x.0 (port.seen s) (port.seen x.1))

    option_found : (steps : ℕ) (last : Option ℕ) → ((last : Option ℕ) (s : R) (r : Rest) (x : Present × R × Rest) → IsBytes r.bytes → options_at port.read t marked members steps last s r ≡ Ok x → FoundOptions last s r x)
        → (s : R) (r : Rest) (next : Next × Rest) (bytes : List ℕ) (x : Present × R × Rest) → IsBytes r.bytes → Took r bytes next.1 → IsNext marked last bytes next.0
        → option_then port.read t marked members (options_at port.read t marked members steps) r.place next.0 s next.1 ≡ Ok x → FoundOptions last s r x
    option_found steps last later s r (None, q) bytes x fits took is e =
        subst (λ (y : Present × R × Rest). FoundOptions last s r y) (ok_is ([], s, q) x e) (bytes, took, (0, (is, refl, refl)))
    option_found steps last later s r (Some it, q) bytes x fits took is e =
        then_ok (tagged port.read t r.place (kind_tagged it.0 members) it.1 s q) (λ v. made (with_option it.0 v.0) (options_at port.read t marked members steps (Some it.0)) v.1 v.2) x e λ v v_is rest.
        then_ok (options_at port.read t marked members steps (Some it.0) v.1 v.2) (λ y. Ok (with_option it.0 v.0 y.0, y.1, y.2)) x rest λ y y_is done.
        let fits_q = (Took-fits r q bytes fits took).1 in
        let f = (tagged_lawful r.place (kind_tagged it.0 members) it.1 (tag_format bytes it is.0)).found s q v fits_q v_is in
        let g = later (Some it.0) v.1 v.2 y ((Took-fits q v.2 f.0 fits_q f.1).1) y_is in
        subst (λ (z : Present × R × Rest). FoundOptions last s r z) (ok_is (with_option it.0 v.0 y.0, y.1, y.2) x done) (
          bytes ++ (f.0 ++ g.0),
          Took-then r q y.2 bytes (f.0 ++ g.0) took (Took-then q v.2 y.2 f.0 g.0 f.1 g.1),
          (suc g.2.0, (it.0, it.1, v.0, y.0, bytes, f.0, g.0, port.seen v.1, refl, is.0, is.1, f.2, refl, g.2.1)),
        )

    options_found : (steps : ℕ) (last : Option ℕ) (s : R) (r : Rest) (x : Present × R × Rest) → IsBytes r.bytes → options_at port.read t marked members steps last s r ≡ Ok x → FoundOptions last s r x
    options_found zero last s r x fits e = absurd cc
    options_found (suc steps) last s r x fits e =
        then_ok (next_tag_at last marked r) (λ next. option_then port.read t marked members (options_at port.read t marked members steps) r.place next.0 s next.1) x e λ next next_is done.
        let f = next_found marked last r next fits next_is in
        option_found steps last (options_found steps) s r next f.0 x fits f.1 f.2 done

    abbrev ReadOptions : ℕ → Option ℕ → Present → R → S → Rest → Rest → Type 0
    ReadOptions steps last v s to r after = (end : R) × (port.seen end ≡ to) × (options_at port.read t marked members steps last s r ≡ Ok (v, end, after))

    option_is : (steps : ℕ) (last : Option ℕ) (number format : ℕ) (s q end : R) (r a b after : Rest) (v : Option Tree) (others all : Present) → next_tag_at last marked r ≡ Ok (Some (number, format), a)
        → tagged port.read t r.place (kind_tagged number members) format s a ≡ Ok (v, q, b) → options_at port.read t marked members steps (Some number) q b ≡ Ok (others, end, after)
        → all ≡ with_option number v others → options_at port.read t marked members (suc steps) last s r ≡ Ok (all, end, after)
    option_is steps last number format s q end r a b after v others all next value rest is = rw (next, value, rest, is) refl

    end_is : (steps : ℕ) (last : Option ℕ) (s : R) (r after : Rest) → next_tag_at last marked r ≡ Ok (None, after) → options_at port.read t marked members (suc steps) last s r ≡ Ok ([], s, after)
    end_is steps last s r after next = rw next refl

    options_only : (n steps : ℕ) (last : Option ℕ) (s : R) (to : S) (r after : Rest) (bytes : List ℕ) (v : Present) → length bytes < steps → (marked ≡ false → after.bytes ≡ []) → Took r bytes after
        → Options port t marked members n last bytes v (port.seen s) to → ReadOptions steps last v s to r after
    options_only zero zero last s to r after bytes v lt end k h = absurd (omega (arith, lt))
    options_only zero (suc steps) last s to r after bytes v lt end k h =
        (s, sym h.2, end_is steps last s r after (end_only marked last r after bytes k h.0 end) ∙ (λ i. Ok (sym h.1 i, s, after)))
    options_only (suc n) zero last s to r after bytes v lt end k h = absurd (omega (arith, lt))
    options_only (suc n) (suc steps) last s to r after bytes v lt end k (number, format, value, others, lead, a, b, mid, parts, is_tag, rise, is_value, is_list, rest) =
        let m = between r after lead (a ++ b) (subst (λ (l : List ℕ). Took r l after) parts k) in
        let l = between m.0 after a b m.2 in
        let o = (tagged_lawful r.place (kind_tagged number members) format (tag_format lead (number, format) is_tag)).only s mid m.0 l.0 a value l.1 is_value in
        let long : length bytes ≡ length lead + (length a + length b) = ap length parts ∙ length-append lead (a ++ b) ∙ ap (λ (i : ℕ). length lead + i) (length-append a b) in
        let p = options_only n steps (Some number) o.0 to l.0 after b others (omega (arith, long, lt, tag_long lead (number, format) is_tag)) end l.2 (subst (λ (u : S). Options port t marked members n (Some number) b others u to) (sym o.1) rest) in
        (p.0, p.1, option_is steps last number format s o.0 p.0 r m.0 l.0 after value others v (tag_only marked last r m.0 lead (number, format) m.1 is_tag rise) o.2 p.2 is_list)

    pub all_found : Found port.seen (all_options port.read t marked members) (AllOptions port t marked members)
    all_found s r x fits e = options_found (suc (length r.bytes)) None s r x fits e

    pub all_only : (s : R) (to : S) (r after : Rest) (bytes : List ℕ) (v : Present) → (marked ≡ false → after.bytes ≡ []) → Took r bytes after → AllOptions port t marked members bytes v (port.seen s) to
        → (end : R) × (port.seen end ≡ to) × (all_options port.read t marked members s r ≡ Ok (v, end, after))
    all_only s to r after bytes v end k h = options_only h.0 (suc (length r.bytes)) None s to r after bytes v (omega (arith, ap length k.parts, length-append bytes after.bytes)) end k h.1

  pub marked_lawful : (members : List Member) → Law (all_options port.read t true members) (AllOptions port t true members)
  marked_lawful members = record {
    found = all_found true members;
    only = λ s to r after bytes v k h. all_only true members s to r after bytes v (λ e. absurd cc) k h;
  }
