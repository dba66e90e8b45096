-- Elements by place, where one is put last.
use Rattle.std.proofs.Common.{◌≡◌, ℕ, zero, suc, ◌<◌, ◌⊎◌, inl, inr, List, [], ◌∷◌, ◌++◌, length, None, Some, refl, ap, arith}
use Rattle.std.specs.Prelude.{slice_get}

pub get_cases : {A : Type 0} (xs : List A) (y : A) (n : ℕ) (x : A) → slice_get (xs ++ y ∷ []) n ≡ Some x → (slice_get xs n ≡ Some x) ⊎ ((n ≡ length xs) × (y ≡ x))
get_cases [] y zero x h = inr (refl, cc)
get_cases [] y (suc n) x h = absurd (let k : None ≡ Some x = h in cc)
get_cases (z ∷ xs) y zero x h = inl h
get_cases (z ∷ xs) y (suc n) x h =
    elim (get_cases xs y n x h) [ inl a ↦ inl a | inr b ↦ inr (ap suc b.0, b.1) ]

pub get_within : {A : Type 0} (xs : List A) (n : ℕ) (x : A) → slice_get xs n ≡ Some x → n < length xs
get_within [] n x h = absurd (let k : None ≡ Some x = h in cc)
get_within (z ∷ xs) zero x h = omega arith
get_within (z ∷ xs) (suc n) x h = let k = get_within xs n x h in omega arith
