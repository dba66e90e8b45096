-- A fault where a tag or the end of the members is due is read exactly where there is the defect.
use Rattle.std.proofs.Common.{◌≡◌, ℕ, ◌+◌, ◌/◌, ◌≤◌, Bool, true, false, ◌||◌, cond, ltb, leb, eqb, List, [], ◌∷◌, length, Option, None, Some, Result, Ok, Err, refl, sym, ap, ◌∙◌, inl, inr}
use Rattle.std.proofs.lemmas.Bool.{ltb-false, le-ltb, leb-false, lt-leb, eqb-true, eqb-false}
use Rattle.ice_prims.specs.declared.fault.Fault.{Fault}
use Rattle.ice_prims.specs.declared.fault.Kind.TheVariants.{BadTag}
use Rattle.ice_prims.specs.Rest.{Rest, fault, IsBytes, after}
use Rattle.ice_prims.proofs.Parts.{chosen as choice}
use Rattle.ice_encoding.specs.Parts.{IsLawful, byte, made}
use Rattle.ice_encoding.specs.Tags.{tag_by, behind_leading, leading, is_in_form, tag, rises, rising_at, next_tag_from, next_tag_at}
use Rattle.ice_encoding.proofs.Joined.{byte_lawful, size_lawful, nothing_lawful, made_lawful, tested_lawful, chosen_lawful}
use Rattle.ice_encoding.proofs.Tagged.{tag_lawful}
use Rattle.graph_laws.specs.Defects.{Defect, Lacks, Unfit, Or, Then}
use Rattle.graph_laws.specs.Members.{lead, led, IsOffTag, BehindLeadBreaks, TagBreaks, AtEnd, NextBreaks}
use Rattle.graph_laws.proofs.Breaking.{failed, same_err, no_err, then_err, Agrees, then_agrees, made_agrees, tested_agrees}
use Rattle.graph_laws.proofs.Primitives.{byte_agrees, size_agrees}
use Rattle.graph_laws.proofs.From.{goes, stops}

-- ---- a tag

by_lawful : (small : Bool) (b : ℕ) → IsLawful (tag_by small b)
by_lawful true b = nothing_lawful (b / 8)
by_lawful false b = size_lawful

led_lawful : IsLawful led
led_lawful = chosen_lawful _ _ _ (tested_lawful _ _ _ byte_lawful) (λ b. made_lawful (λ number. (b, number)) (λ x. x.1) (behind_leading b) (λ number. refl) (by_lawful (ltb b 240) b))
    (λ b first second x is_byte is_tag. rw is_tag.1 refl)

lead_agrees : Agrees lead.read (Or (Lacks 1) (Unfit byte (λ b. 248 ≤ b) BadTag))
lead_agrees = tested_agrees _ BadTag byte byte_lawful (Lacks 1) byte_agrees (λ b. 248 ≤ b) (λ b h. ltb-false _ _ h) (λ b h. le-ltb _ _ h)

by_agree : (small : Bool) (b : ℕ) → Agrees (tag_by small b).read (BehindLeadBreaks small)
by_agree true b = record { broken = λ r e fits h. no_err _ e h; breaks = λ r e h. absurd h }
by_agree false b = size_agrees

abbrev LedBreaks : Defect
LedBreaks = Then lead (Or (Lacks 1) (Unfit byte (λ b. 248 ≤ b) BadTag)) (λ b. BehindLeadBreaks (ltb b 240))

led_agrees : Agrees led.read LedBreaks
led_agrees = then_agrees lead (tested_lawful _ _ _ byte_lawful) _ lead_agrees (λ b. (made (λ number. (b, number)) (λ x. x.1) (behind_leading b)).read) (λ b. BehindLeadBreaks (ltb b 240))
    (λ b. made_agrees (behind_leading b).read (BehindLeadBreaks (ltb b 240)) (by_agree (ltb b 240) b) (λ number. (b, number)))

off_tag : (x : ℕ × ℕ) → is_in_form x ≡ false → IsOffTag x
off_tag x e = by_test (ltb x.0 240) (leb 30 x.1) refl refl e
  where
    by_test : (a b : Bool) → ltb x.0 240 ≡ a → leb 30 x.1 ≡ b → (a || b) ≡ false → IsOffTag x
    by_test true b p q e = absurd cc
    by_test false true p q e = absurd cc
    by_test false false p q e = (ltb-false _ _ p, leb-false _ _ q)

tag_off : (x : ℕ × ℕ) → IsOffTag x → is_in_form x ≡ false
tag_off x h = let a : ltb x.0 240 ≡ false = le-ltb _ _ h.0 in let b : leb 30 x.1 ≡ false = lt-leb _ _ h.1 in rw (a, b) refl

pub tag_agrees : Agrees tag.read TagBreaks
tag_agrees = made_agrees leading.read TagBreaks (tested_agrees is_in_form BadTag led led_lawful _ led_agrees IsOffTag off_tag tag_off) _

-- ---- above the last one

abbrev Due : Option ℕ → ℕ → List ℕ → Fault → Type 0
Due last = Or TagBreaks (Unfit tag (λ it. rises last it.0 ≡ false) BadTag)

abbrev above : Option ℕ → Rest → (ℕ × ℕ) × Rest → Result (Option (ℕ × ℕ) × Rest) Fault
above last r t = cond (rises last t.0.0) (Ok (Some t.0, t.1)) (fault r.place BadTag)

rising_broken : (last : Option ℕ) (r : Rest) (e : Fault) → IsBytes r.bytes → rising_at last r ≡ failed e → Due last r.place r.bytes e
rising_broken last r e fits h = then_err (tag.read r) (above last r) e h
    (λ bad. inl (tag_agrees.broken r e fits bad))
    (λ t t_is later. elim (choice (rises last t.0.0) (Ok (Some t.0, t.1)) (fault r.place BadTag) (Err e) later) [
      | inl good ↦ no_err (Some t.0, t.1) e good.1
      | inr bad ↦
          let f = tag_lawful.found r t fits t_is in
          inr (t.0, f.0, t.1.bytes, f.1.parts, f.2, bad.0, sym (same_err (record { place = r.place; kind = BadTag }) e bad.1))
    ])

rising_breaks : (last : Option ℕ) (r : Rest) (e : Fault) → Due last r.place r.bytes e → rising_at last r ≡ failed e
rising_breaks last r e (inl h) = stops (tag.read r) (above last r) e (tag_agrees.breaks r e h)
rising_breaks last r e (inr (t, a, rest, parts, spells, off, at)) =
    let m : Rest = record { place = r.place + length a; bytes = rest } in
    goes (tag.read r) (above last r) (t, m) (tag_lawful.only r m a t (record { parts = parts; moved = refl }) spells) ∙ (rw (off, at) refl)

-- ---- a tag, or the end

from_broken : (marked : Bool) (last : Option ℕ) (bytes : List ℕ) (r : Rest) (e : Fault) → r.bytes ≡ bytes → IsBytes r.bytes → next_tag_from last marked bytes r ≡ failed e → ¬ AtEnd marked bytes × Due last r.place r.bytes e
from_broken true last [] r e is fits h = ((λ end. absurd (none end)), rising_broken last r e fits h)
  where
    none : AtEnd true [] → ⊥
    none (rest, same) = cc
from_broken true last (b ∷ bs) r e is fits h = elim (choice (eqb b 255) (Ok (None, after r 1)) (rising_at last r) (Err e) h) [
  | inl end ↦ no_err (None, after r 1) e end.1
  | inr more ↦ (other (eqb-false b 255 more.0), rising_broken last r e fits more.1)
]
  where
    other : (b ≡ 255 → ⊥) → AtEnd true (b ∷ bs) → ⊥
    other differs (rest, same) = differs cc
from_broken false last [] r e is fits h = no_err (None, r) e h
from_broken false last (b ∷ bs) r e is fits h = ((λ end. absurd cc), rising_broken last r e fits h)

from_breaks : (marked : Bool) (last : Option ℕ) (bytes : List ℕ) (r : Rest) (e : Fault) → (AtEnd marked bytes → ⊥) → Due last r.place r.bytes e → next_tag_from last marked bytes r ≡ failed e
from_breaks true last [] r e more h = rising_breaks last r e h
from_breaks true last (b ∷ bs) r e more h = by_test (eqb b 255) refl
  where
    by_test : (c : Bool) → eqb b 255 ≡ c → cond c (Ok (None, after r 1)) (rising_at last r) ≡ failed e
    by_test true is = absurd (more (bs, ap (λ (n : ℕ). n ∷ bs) (eqb-true b 255 is)))
    by_test false is = rising_breaks last r e h
from_breaks false last [] r e more h = absurd (more refl)
from_breaks false last (b ∷ bs) r e more h = rising_breaks last r e h

pub next_agrees : (marked : Bool) (last : Option ℕ) → Agrees (next_tag_at last marked) (NextBreaks marked last)
next_agrees marked last = record {
  broken = λ r e fits h. from_broken marked last r.bytes r e refl fits h;
  breaks = λ r e h. from_breaks marked last r.bytes r e h.0 h.1;
}
