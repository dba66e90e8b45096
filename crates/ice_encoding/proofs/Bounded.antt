-- A size that counts from a place on, what fills that bound, and both together.
use Rattle.std.proofs.Common.{◌≡◌, ℕ, ℤ, pos, negsuc, ◌+◌, ◌-◌, ◌≤◌, false, List, [], ◌∷◌, ◌++◌, length, Ok, refl, sym, ap, subst, ◌∙◌, arith, inl, inr, ltb, append-nil}
use Rattle.std.specs.Prelude.{FitsSigned}
use Rattle.std.specs.Int.{w32}
use Rattle.std.proofs.lemmas.Bool.{ltb-false, le-ltb}
use Rattle.std.proofs.lemmas.List.{length-append}
use Rattle.ice_prims.specs.Rest.{Rest, ◌>>=◌, Took, IsBytes, bound_at, bytes_at}
use Rattle.ice_prims.specs.Number.{signed_at, SpellsSigned}
use Rattle.ice_prims.specs.Bytes.{signed_bytes}
use Rattle.ice_prims.proofs.Parts.{chosen as choice, then_ok, ok_is, between, Took-then, Took-fits, IsBytes-rest, bytes_found, bytes_only}
use Rattle.ice_encoding.specs.declared.limits.TheConstants.{LARGEST, SIZE_BYTES, SMALLEST}
use Rattle.ice_encoding.specs.Parts.{Part, IsLawful}
use Rattle.ice_encoding.specs.Bounds.{claimed, ended, filled, Content, IsLawfulContent, filling, size_with, enclosed}
use Rattle.ice_encoding.proofs.Joined.{answer as done, int_lawful, not_longer_both}

-- ---- the size

nat_ok : (m n : ℕ) → done m ≡ done n → m ≡ n
nat_ok m n e = cc

-- a size that was taken is the one that was claimed, and within its bound
pub claimed_ok : {C : Type 0} (place left smallest : ℕ) (z : ℤ) (n : ℕ) → claimed place left smallest z ≡ Ok n → (z ≡ pos n → n ≤ LARGEST → n ≤ left → smallest ≤ n → C) → C
claimed_ok place left smallest (negsuc m) n e go = absurd cc
claimed_ok place left smallest (pos m) n e go = elim (choice (ltb LARGEST m) _ _ (Ok n) e) [
  | inl c ↦ absurd cc
  | inr c ↦ elim (choice (ltb left m) _ _ (Ok n) c.1) [
    | inl d ↦ absurd cc
    | inr d ↦ elim (choice (ltb m smallest) _ _ (Ok n) d.1) [
      | inl f ↦ absurd cc
      | inr f ↦ let same : m ≡ n = nat_ok m n f.1 in go (ap pos same) (omega (arith, same, ltb-false _ _ c.0)) (omega (arith, same, ltb-false _ _ d.0)) (omega (arith, same, ltb-false _ _ f.0))
    ]
  ]
]

pub claimed_is : (place left smallest n : ℕ) → n ≤ LARGEST → n ≤ left → smallest ≤ n → claimed place left smallest (pos n) ≡ Ok n
claimed_is place left smallest n large there small =
    let within : ltb LARGEST n ≡ false = le-ltb _ _ large in
    let inside : ltb left n ≡ false = le-ltb _ _ there in
    let enough : ltb n smallest ≡ false = le-ltb _ _ small in
    rw (within, inside, enough) refl

-- ---- what fills its bound

ended_ok : {A : Type 0} {C : Type 0} (left : List ℕ) (place : ℕ) (x y : A) → ended left place x ≡ Ok y → (left ≡ [] → x ≡ y → C) → C
ended_ok [] place x y e go = go refl (ok_is x y e)
ended_ok (b ∷ bs) place x y e go = absurd cc

pub filled_found : {A : Type 0} (part : Part A) → IsLawful part → (r : Rest) (y : A) → IsBytes r.bytes → filled part.read r ≡ Ok y → part.Spells r.bytes y
filled_found {A} part law r y fits e =
    then_ok (part.read r) (λ x. ended x.1.bytes x.1.place x.0) y e λ x x_is last.
    ended_ok x.1.bytes x.1.place x.0 y last λ none same.
    let f = law.found r x fits x_is in
    let all : r.bytes ≡ f.0 = f.1.parts ∙ ap (λ (rest : List ℕ). f.0 ++ rest) none ∙ append-nil f.0 in
    subst (λ (z : A). part.Spells r.bytes z) same (subst (λ (bytes : List ℕ). part.Spells bytes x.0) (sym all) f.2)

pub filled_only : {A : Type 0} (part : Part A) → IsLawful part → (r : Rest) (y : A) → part.Spells r.bytes y → filled part.read r ≡ Ok y
filled_only part law r y h =
    let end : Rest = record { place = r.place + length r.bytes; bytes = [] } in
    let took : Took r r.bytes end = record { parts = sym (append-nil r.bytes); moved = refl } in
    rw (law.only r end r.bytes y took h) refl

pub filling_lawful : {A : Type 0} (part : Part A) → IsLawful part → IsLawfulContent (filling part)
filling_lawful part law = record {
  found = filled_found part law;
  only = filled_only part law;
  sort = law.sort;
  put = law.put;
  shortest = law.shortest;
}

-- ---- behind its size

module _ {A : Type 0} (content : Content A) (law : IsLawfulContent content) where
  -- from the size that was read, the bound that it counts, and what the bound holds
  holds : (r : Rest) (claim : ℤ × Rest) (n : ℕ) (bound : List ℕ × Rest) (x : A) → IsBytes r.bytes → (bytes : List ℕ) × Took r bytes claim.1 × SpellsSigned w32 bytes claim.0
      → claim.0 ≡ pos n → n ≤ LARGEST → SMALLEST ≤ n → Took claim.1 bound.0 bound.1 × (length bound.0 ≡ n - SIZE_BYTES) → content.read (record { place = claim.1.place; bytes = bound.0 }) ≡ Ok x
      → (bytes : List ℕ) × Took r bytes bound.1 × (enclosed content).Spells bytes x
  holds r claim n bound x fits f same large small g inside =
      let total : length (f.0 ++ bound.0) ≡ n = omega (arith, length-append f.0 bound.0, f.2.0, g.1, small) in
      let behind = (Took-fits r claim.1 f.0 fits f.1).1 in (
        f.0 ++ bound.0,
        Took-then r claim.1 bound.1 f.0 bound.0 f.1 g.0,
        (
          f.0,
          bound.0,
          refl,
          subst (λ (z : ℤ). SpellsSigned w32 f.0 z) (same ∙ ap pos (sym total)) f.2,
          omega (arith, total, small),
          omega (arith, total, large),
          law.found (record { place = claim.1.place; bytes = bound.0 }) x ((Took-fits claim.1 bound.1 bound.0 behind g.0).0) inside,
        ),
      )

  enclosed_found : (r : Rest) (y : A × Rest) → IsBytes r.bytes → (enclosed content).read r ≡ Ok y → (bytes : List ℕ) × Took r bytes y.1 × (enclosed content).Spells bytes y.0
  enclosed_found r y fits e =
      then_ok (signed_at w32 r) (λ claim. claimed r.place (length r.bytes) SMALLEST claim.0 >>= λ n. bound_at (n - SIZE_BYTES) claim.1 >>= λ bound. content.read bound.0 >>= λ x. Ok (x, bound.1)) y e λ claim claim_is a.
      then_ok (claimed r.place (length r.bytes) SMALLEST claim.0) (λ n. bound_at (n - SIZE_BYTES) claim.1 >>= λ bound. content.read bound.0 >>= λ x. Ok (x, bound.1)) y a λ n n_is b.
      claimed_ok r.place (length r.bytes) SMALLEST claim.0 n n_is λ same large there small.
      then_ok (bound_at (n - SIZE_BYTES) claim.1) (λ bound. content.read bound.0 >>= λ x. Ok (x, bound.1)) y b λ bound bound_is c.
      then_ok (bytes_at (n - SIZE_BYTES) claim.1) (λ bytes. Ok (record { place = claim.1.place; bytes = bytes.0 }, bytes.1)) bound bound_is λ bytes bytes_are at_bound.
      then_ok (content.read bound.0) (λ x. Ok (x, bound.1)) y c λ x x_is last.
      let f = int_lawful.found r claim fits claim_is in
      let g = bytes_found (n - SIZE_BYTES) claim.1 bytes bytes_are in
      let there_is : bound ≡ (record { place = claim.1.place; bytes = bytes.0 }, bytes.1) = sym (ok_is _ _ at_bound) in
      let inside : content.read (record { place = claim.1.place; bytes = bytes.0 }) ≡ Ok x = subst (λ (z : Rest × Rest). content.read z.0 ≡ Ok x) there_is x_is in
      let result : (x, bytes.1) ≡ y = ok_is _ _ (subst (λ (z : Rest × Rest). done (x, z.1) ≡ done y) there_is last) in
      subst (λ (z : A × Rest). (bytes : List ℕ) × Took r bytes z.1 × (enclosed content).Spells bytes z.0) result (holds r claim n bytes x fits f same large small g inside)

  enclosed_only : (r s : Rest) (bytes : List ℕ) (x : A) → Took r bytes s → (enclosed content).Spells bytes x → (enclosed content).read r ≡ Ok (x, s)
  enclosed_only r s bytes x k h =
      let m = between r s h.0 h.1 (rw (← h.2) k) in
      let total : length bytes ≡ SIZE_BYTES + length h.1 = omega (arith, ap length h.2, length-append h.0 h.1, h.3.0) in
      let there : length bytes ≤ length r.bytes = omega (arith, ap length k.parts, length-append bytes s.bytes) in
      rw (
        int_lawful.only r m.0 h.0 (pos (length bytes)) m.1 h.3,
        claimed_is r.place (length r.bytes) SMALLEST (length bytes) h.5 there h.4,
        bytes_only (length bytes - SIZE_BYTES) m.0 s h.1 (omega (arith, total)) m.2,
        law.only (record { place = m.0.place; bytes = h.1 }) x h.6,
      ) refl

  fits_int : (n : ℕ) → n ≤ LARGEST → FitsSigned w32 (pos n)
  fits_int n large = omega (arith, large)

  enclosed_put : (x : A) → (enclosed content).Is x → (enclosed content).Spells ((enclosed content).put x) x
  enclosed_put x is =
      let n = size_with content x in
      let claim = signed_bytes w32 (pos n) in
      let spelled = int_lawful.put (pos n) (fits_int n is.2) in
      let total : length (claim ++ content.put x) ≡ n = omega (arith, length-append claim (content.put x), spelled.0) in
      (claim, content.put x, refl, subst (λ (m : ℕ). SpellsSigned w32 claim (pos m)) (sym total) spelled, omega (arith, total, is.1), omega (arith, total, is.2), law.put x is.0)

  -- where no content is less than an encapsulation holds at least
  module _ (least : (x : A) → content.Is x → SMALLEST ≤ size_with content x) where
    enclosed_sort : (bytes : List ℕ) (x : A) → IsBytes bytes → (enclosed content).Spells bytes x → (enclosed content).Is x
    enclosed_sort bytes x fits h =
        let inside : IsBytes h.1 = IsBytes-rest h.0 h.1 (rw (← h.2) fits) in
        let is = law.sort h.1 x inside h.6 in
        (is, least x is, omega (arith, ap length h.2, length-append h.0 h.1, h.3.0, law.shortest h.1 x inside h.6, h.5))

    pub enclosed_lawful : IsLawful (enclosed content)
    enclosed_lawful = record {
      found = enclosed_found;
      only = enclosed_only;
      sort = enclosed_sort;
      put = enclosed_put;
      shortest = λ bytes x fits h.
          let inside : IsBytes h.1 = IsBytes-rest h.0 h.1 (rw (← h.2) fits) in
          not_longer_both h.0 h.1 (signed_bytes w32 (pos (size_with content x))) (content.put x) bytes h.2 (omega (arith, h.3.0)) (law.shortest h.1 x inside h.6);
    }
