-- The tag that stands next is read exactly where it is spelled, and so is the end.
use Rattle.std.proofs.Common.{◌≡◌, ℕ, ◌+◌, ◌≤◌, ◌<◌, Bool, true, false, IsTrue, eqb, if◌then◌else◌, List, [], ◌∷◌, ◌++◌, length, drop, Option, Some, None, Result, Ok, refl, sym, ap, subst, ◌∙◌, arith, inl, inr}
use Rattle.std.proofs.lemmas.Bool.{eqb-true, ne_eqb, ltb-true}
use Rattle.ice_prims.specs.declared.fault.Fault.{Fault}
use Rattle.ice_prims.specs.declared.fault.Kind.TheVariants.{BadTag}
use Rattle.ice_prims.specs.Rest.{Rest, fault, Took, IsBytes, after}
use Rattle.ice_prims.proofs.Parts.{chosen, then_ok, ok_is, Took-none, Took-none-is}
use Rattle.ice_encoding.specs.Tags.{tag, rises, rising_at, next_tag_from, next_tag_at}
use Rattle.ice_encoding.proofs.Tagged.{tag_lawful}
use Rattle.ice_encoding.specs.Optionals.{SpellsEnd}

-- a tag and its format, or the end
abbrev pub Next : Type 0
Next = Option (ℕ × ℕ)

-- what was read is spelled
abbrev pub IsNext : Bool → Option ℕ → List ℕ → Next → Type 0
IsNext marked last bytes None = SpellsEnd marked bytes
IsNext marked last bytes (Some it) = tag.Spells bytes it × IsTrue (rises last it.0)

abbrev FoundNext : Bool → Option ℕ → Rest → Next × Rest → Type 0
FoundNext marked last r x = (bytes : List ℕ) × Took r bytes x.1 × IsNext marked last bytes x.0

rising_found : (marked : Bool) (last : Option ℕ) (r : Rest) (x : Next × Rest) → IsBytes r.bytes → rising_at last r ≡ Ok x → FoundNext marked last r x
rising_found marked last r x fits e =
    then_ok (tag.read r) (λ t. if rises last t.0.0 then Ok (Some t.0, t.1) else fault r.place BadTag) x e λ t t_is rest.
    elim (chosen (rises last t.0.0) (Ok (Some t.0, t.1)) (fault r.place BadTag) (Ok x) rest) [
      | inl c ↦
          let f = tag_lawful.found r t fits t_is in
          subst (λ (y : Next × Rest). FoundNext marked last r y) (ok_is (Some t.0, t.1) x c.1) (f.0, f.1, (f.2, c.0))
      | inr c ↦ absurd cc
    ]

took_one : (r : Rest) (b : ℕ) (bs : List ℕ) → r.bytes ≡ b ∷ bs → Took r (b ∷ []) (after r 1)
took_one r b bs is = record { parts = is ∙ ap (λ (l : List ℕ). b ∷ drop 1 l) (sym is); moved = refl }

from_found : (marked : Bool) (last : Option ℕ) (bytes : List ℕ) (r : Rest) (x : Next × Rest) → r.bytes ≡ bytes → IsBytes r.bytes → next_tag_from last marked bytes r ≡ Ok x → FoundNext marked last r x
from_found true last [] r x is fits e = rising_found true last r x fits e
from_found true last (b ∷ bs) r x is fits e = elim (chosen (eqb b 255) (Ok (None, after r 1)) (rising_at last r) (Ok x) e) [
  | inl c ↦ subst (λ (y : Next × Rest). FoundNext true last r y) (ok_is (None, after r 1) x c.1) (b ∷ [], took_one r b bs is, ap (λ (n : ℕ). n ∷ []) (eqb-true b 255 c.0))
  | inr c ↦ rising_found true last r x fits c.1
]
from_found false last [] r x is fits e = subst (λ (y : Next × Rest). FoundNext false last r y) (ok_is (None, r) x e) ([], Took-none r, refl)
from_found false last (b ∷ bs) r x is fits e = rising_found false last r x fits e

pub next_found : (marked : Bool) (last : Option ℕ) (r : Rest) (x : Next × Rest) → IsBytes r.bytes → next_tag_at last marked r ≡ Ok x → FoundNext marked last r x
next_found marked last r x fits e = from_found marked last r.bytes r x refl fits e

-- ---- a tag

-- it begins with a byte that is no marker
pub tag_leads : (bytes : List ℕ) (it : ℕ × ℕ) → tag.Spells bytes it → (b : ℕ) × (bs : List ℕ) × (bytes ≡ b ∷ bs) × (b < 248)
tag_leads bytes it (x, same, ((b, a, others, parts, (is_byte, leads), behind), form)) = (b, others, parts ∙ ap (λ (l : List ℕ). l ++ others) is_byte.1, ltb-true b 248 leads)

pub tag_long : (bytes : List ℕ) (it : ℕ × ℕ) → tag.Spells bytes it → 1 ≤ length bytes
tag_long bytes it h = let l = tag_leads bytes it h in omega (arith, ap length l.2)

pub tag_format : (bytes : List ℕ) (it : ℕ × ℕ) → tag.Spells bytes it → it.1 ≤ 7
tag_format bytes it h = omega (arith, ap (λ (t : ℕ × ℕ). t.1) h.1)

rising_next : (marked : Bool) (last : Option ℕ) (r : Rest) (b : ℕ) (bs : List ℕ) → eqb b 255 ≡ false → next_tag_from last marked (b ∷ bs) r ≡ rising_at last r
rising_next true last r b bs other = rw other refl
rising_next false last r b bs other = refl

pub tag_only : (marked : Bool) (last : Option ℕ) (r s : Rest) (bytes : List ℕ) (it : ℕ × ℕ) → Took r bytes s → tag.Spells bytes it → IsTrue (rises last it.0) → next_tag_at last marked r ≡ Ok (Some it, s)
tag_only marked last r s bytes it k h rise =
    let l = tag_leads bytes it h in
    let other : eqb l.0 255 ≡ false = ne_eqb _ _ (λ e. omega (arith, e, l.3)) in
    let front : r.bytes ≡ l.0 ∷ (l.1 ++ s.bytes) = k.parts ∙ ap (λ (t : List ℕ). t ++ s.bytes) l.2 in
    let rising : rising_at last r ≡ Ok (Some it, s) = rw (tag_lawful.only r s bytes it k h, rise) refl in
    ap (λ (t : List ℕ). next_tag_from last marked t r) front ∙ rising_next marked last r l.0 (l.1 ++ s.bytes) other ∙ rising

-- ---- the end

ends_at : (r s : Rest) (n : ℕ) → r.place + n ≡ s.place → drop n r.bytes ≡ s.bytes → after r n ≡ s
ends_at r s n place bytes = rw (place, bytes) refl

abbrev done : Rest → Result (Next × Rest) Fault
done s = Ok (None, s)

pub end_only : (marked : Bool) (last : Option ℕ) (r s : Rest) (bytes : List ℕ) → Took r bytes s → SpellsEnd marked bytes → (marked ≡ false → s.bytes ≡ []) → next_tag_at last marked r ≡ Ok (None, s)
end_only true last r s bytes k h none =
    let parts : r.bytes ≡ 255 ∷ s.bytes = k.parts ∙ ap (λ (t : List ℕ). t ++ s.bytes) h in
    ap (λ (t : List ℕ). next_tag_from last true t r) parts ∙ ap done (ends_at r s 1 (omega (arith, k.moved, ap length h)) (ap (drop 1) parts))
end_only false last r s bytes k h none =
    let same : r ≡ s = Took-none-is r s (subst (λ bytes. Took r bytes s) h k) in
    ap (λ (t : List ℕ). next_tag_from last false t r) (k.parts ∙ ap (λ (t : List ℕ). t ++ s.bytes) h ∙ none refl) ∙ ap done same
