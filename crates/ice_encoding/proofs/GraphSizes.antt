-- The laws of the size of a slice, and of the bytes that are kept behind one.
use Rattle.std.proofs.Common.{◌≡◌, ℕ, suc, ◌+◌, ◌-◌, Bool, true, false, eqb, List, [], ◌∷◌, ◌++◌, length, Result, Ok, refl, ap, subst, ◌∙◌, arith, inl, inr, leb-true}
use Rattle.std.specs.Prelude.{IsTrue, nat_le}
use Rattle.std.proofs.lemmas.Bool.{eqb-true}
use Rattle.ice_prims.specs.declared.fault.Fault.{Fault}
use Rattle.ice_prims.specs.declared.fault.Kind.TheVariants.{BadSize, BadTag}
use Rattle.ice_prims.specs.Rest.{Rest, fault, ◌>>=◌, Took}
use Rattle.ice_prims.proofs.Parts.{chosen, then_ok, ok_is}
use Rattle.ice_encoding.specs.Parts.{Part, IsLawful, tested}
use Rattle.ice_encoding.specs.Skipping.{count, bound_behind}
use Rattle.ice_encoding.proofs.Joined.{made_sorted, tested_lawful}
use Rattle.ice_encoding.proofs.Passed.{count_lawful, bound_found, bound_only}
use Rattle.ice_encoding.proofs.Values.{LawfulPart}
use Rattle.ice_encoding.specs.Slices.{slice_size, unknown_bytes, unmarked, without_marker, SpellsUnknown, unknown_at}

-- ---- the size

abbrev four_more : Part ℕ
four_more = tested (λ n. nat_le 4 n) BadSize count

less_and_more : (n : ℕ) → IsTrue (nat_le 4 n) → n - 4 + 4 ≡ n
less_and_more n le = omega (arith, leb-true 4 n le)

pub slice_size_lawful : IsLawful slice_size
slice_size_lawful = made_sorted (λ n. n - 4) (λ n. n + 4) four_more (λ n is. rw (less_and_more n is.1) (is, refl)) (λ n is. omega arith) (tested_lawful (λ n. nat_le 4 n) BadSize count count_lawful)

-- ---- bytes before an end marker

unmarked_found : (place : ℕ) (bytes front : List ℕ) → unmarked place bytes ≡ Ok front → bytes ≡ front ++ 255 ∷ []
unmarked_found place [] front e = absurd cc
unmarked_found place (b ∷ []) front e = elim (chosen (eqb b 255) (Ok []) (fault place BadTag) (Ok front) e) [
  | inl c ↦ ap (λ (n : ℕ). n ∷ []) (eqb-true b 255 c.0) ∙ ap (λ (l : List ℕ). l ++ 255 ∷ []) (ok_is [] front c.1)
  | inr c ↦ absurd cc
]
unmarked_found place (b ∷ c ∷ cs) front e =
    then_ok (unmarked (suc place) (c ∷ cs)) (λ front. Ok (b ∷ front)) front e λ others others_is last.
    ap (λ (l : List ℕ). b ∷ l) (unmarked_found (suc place) (c ∷ cs) others others_is) ∙ ap (λ (l : List ℕ). l ++ 255 ∷ []) (ok_is (b ∷ others) front last)

goes_on : (b : ℕ) (front : List ℕ) (r : Result (List ℕ) Fault) → r ≡ Ok front → (r >>= λ front. Ok (b ∷ front)) ≡ Ok (b ∷ front)
goes_on b front r e = rw e refl

unmarked_only : (place : ℕ) (front : List ℕ) → unmarked place (front ++ 255 ∷ []) ≡ Ok front
unmarked_only place [] = refl
unmarked_only place (b ∷ []) = refl
unmarked_only place (b ∷ c ∷ cs) = goes_on b (c ∷ cs) (unmarked (suc place) (c ∷ (cs ++ 255 ∷ []))) (unmarked_only (suc place) (c ∷ cs))

-- ---- kept bytes

marker_found : (flagged : Bool) (bound : Rest) (front : List ℕ) → without_marker flagged bound ≡ Ok front → bound.bytes ≡ unknown_bytes flagged front
marker_found true bound front e = unmarked_found bound.place bound.bytes front e
marker_found false bound front e = ok_is bound.bytes front e

marker_only : (flagged : Bool) (place : ℕ) (front : List ℕ) → without_marker flagged (record { place = place; bytes = unknown_bytes flagged front }) ≡ Ok front
marker_only true place front = unmarked_only place front
marker_only false place front = refl

unknown_is : (flagged : Bool) (r bound s : Rest) (x : List ℕ) → bound_behind slice_size r ≡ Ok (bound, s) → without_marker flagged bound ≡ Ok x → unknown_at flagged r ≡ Ok (x, s)
unknown_is flagged r bound s x bounds is = rw (bounds, is) refl

pub unknown_lawful : (flagged : Bool) → LawfulPart (unknown_at flagged) (SpellsUnknown flagged)
unknown_lawful flagged = record {
  found = λ r y fits e.
      then_ok (bound_behind slice_size r) (λ bound. without_marker flagged bound.0 >>= λ x. Ok (x, bound.1)) y e λ bound bound_is later.
      then_ok (without_marker flagged bound.0) (λ x. Ok (x, bound.1)) y later λ x x_is last.
      let f = bound_found slice_size slice_size_lawful r bound fits bound_is in
      let same = marker_found flagged bound.0 x x_is in
      subst (λ (z : List ℕ × Rest). (bytes : List ℕ) × Took r bytes z.1 × SpellsUnknown flagged bytes z.0) (ok_is (x, bound.1) y last)
      (f.0 ++ bound.0.bytes, f.1, (f.0, ap (λ (l : List ℕ). f.0 ++ l) same, subst (λ (l : List ℕ). slice_size.Spells f.0 (length l)) same f.2));
  only = λ r s bytes x k h.
      let bound = bound_only slice_size slice_size_lawful r s h.0 (unknown_bytes flagged x) (subst (λ (l : List ℕ). Took r l s) h.1 k) h.2 in
      unknown_is flagged r (record { place = r.place + length h.0; bytes = unknown_bytes flagged x }) s x bound (marker_only flagged (r.place + length h.0) x);
}
