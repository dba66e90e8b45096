-- Lengths that are told, added up.
use Rattle.std.proofs.Common.{◌≡◌, ℕ, suc, ◌+◌, ◌≤◌, ◌<◌, ◌^◌, get_or, zero, List, ◌∷◌, ◌++◌, length, drop, refl, sym, ap, ◌∙◌, arith}
use Rattle.std.specs.List.{flat_map}
use Rattle.std.proofs.lemmas.List.{length-append}
use Rattle.std.proofs.Math.ListN.{drop_of_length-le}
use Rattle.std.proofs.lemmas.List.{drop_more}
use Rattle.ice_types.specs.declared.identity.Identity.{Identity}
use Rattle.ice_encoding.specs.Parts.{text}
use Rattle.ice_encoding.specs.Identity.{identity, facet}
use Rattle.ice_messages.specs.declared.message.Answer.TheVariants.{Missing, Unknown}
use Rattle.ice_messages.specs.Calls.{answer_by}
use Rattle.ice_messages.specs.Written.{told}

pub told_sum : (a b x y : ℕ) → a ≡ told x → b ≡ told y → told (a + b) ≡ told (x + y)
told_sum a b x y p q = rw (p, q) (omega arith)

-- one more of those that are left
pub one_more : {A : Type 0} (put : A → List ℕ) (xs : List A) (i : ℕ) (x : A) (n m k total : ℕ) → i < length xs → x ≡ get_or xs i x → k ≡ told (length (put x)) → m ≡ told (n + k)
    → told (n + length (flat_map put (drop i xs))) ≡ told total → told (m + length (flat_map put (drop (i + 1) xs))) ≡ told total
one_more {A} put xs i x n m k total lt is k_is m_is so_far =
    let cut : drop i xs ≡ x ∷ drop (i + 1) xs = drop_more xs i x lt ∙ ap (λ (y : A). y ∷ drop (i + 1) xs) (sym is) in
    let parts : length (flat_map put (drop i xs)) ≡ length (put x) + length (flat_map put (drop (i + 1) xs)) = ap (λ (ys : List A). length (flat_map put ys)) cut ∙ length-append (put x) (flat_map put (drop (i + 1) xs)) in
    omega (arith, so_far, parts, k_is, m_is)

pub none_more : {A : Type 0} (put : A → List ℕ) (xs : List A) (i n total : ℕ) → length xs ≤ i → n < 2 ^ 64 → told (n + length (flat_map put (drop i xs))) ≡ told total → n ≡ told total
none_more put xs i n total le fits so_far =
    let none : length (flat_map put (drop i xs)) ≡ 0 = ap (λ ys. length (flat_map put ys)) (drop_of_length-le xs le) in
    omega (arith, so_far, none, fits)

-- what follows the status of an answer of its sort
pub missing_put : (status : ℕ) (i : Identity) (f o : List ℕ) → 2 ≤ status → status ≤ 4 → (answer_by status).put (Missing status i f o) ≡ identity.put i ++ (facet.put f ++ text.put o)
missing_put zero i f o low high = absurd (omega (arith, low))
missing_put (suc zero) i f o low high = absurd (omega (arith, low))
missing_put (suc (suc zero)) i f o low high = refl
missing_put (suc (suc (suc zero))) i f o low high = refl
missing_put (suc (suc (suc (suc zero)))) i f o low high = refl
missing_put (suc (suc (suc (suc (suc n))))) i f o low high = absurd (omega (arith, high))

pub unknown_put : (status : ℕ) (what : List ℕ) → 5 ≤ status → (answer_by status).put (Unknown status what) ≡ text.put what
unknown_put zero what low = absurd (omega (arith, low))
unknown_put (suc zero) what low = absurd (omega (arith, low))
unknown_put (suc (suc zero)) what low = absurd (omega (arith, low))
unknown_put (suc (suc (suc zero))) what low = absurd (omega (arith, low))
unknown_put (suc (suc (suc (suc zero)))) what low = absurd (omega (arith, low))
unknown_put (suc (suc (suc (suc (suc n))))) what low = refl
