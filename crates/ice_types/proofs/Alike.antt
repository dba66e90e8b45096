-- Lists whose items are the same, one after the other.
use Rattle.std.proofs.Common.{ℕ, zero, suc, ◌≤◌, ◌≡◌, List, [], ◌∷◌, drop, length, refl, ap, arith, ◌<◌, length-drop}
use Rattle.ice_types.specs.Lacking.{AreSame}

nothing_left : {A : Type 0} (xs : List A) (at : ℕ) → length xs ≤ at → drop at xs ≡ []
nothing_left [] zero le = refl
nothing_left [] (suc at) le = refl
nothing_left (x ∷ xs) zero le = absurd (omega (arith, le))
nothing_left (x ∷ xs) (suc at) le = nothing_left xs at (omega (arith, le))

pub same_length : {A : Type 0} (Same : A → A → Type 0) (xs ys : List A) → AreSame Same xs ys → length xs ≡ length ys
same_length Same [] [] h = refl
same_length Same [] (y ∷ ys) h = absurd h
same_length Same (x ∷ xs) [] h = absurd h
same_length Same (x ∷ xs) (y ∷ ys) h = ap suc (same_length Same xs ys h.1)

-- behind all items of both
pub both_done : {A : Type 0} (Same : A → A → Type 0) (xs ys : List A) (at : ℕ) → length xs ≤ at → length xs ≡ length ys → AreSame Same (drop at xs) (drop at ys)
both_done Same xs ys at le long = rw (nothing_left xs at le, nothing_left ys at (omega (arith, le, long))) tt

-- the one has an item more
pub too_short : {A : Type 0} (Same : A → A → Type 0) (xs ys : List A) (at : ℕ) → at < length xs → length ys ≤ at → AreSame Same (drop at xs) (drop at ys) → ⊥
too_short Same xs ys at lt le h = omega (arith, same_length Same (drop at xs) (drop at ys) h, length-drop at xs, length-drop at ys, lt, le)
