-- Sums over lists.
use Rattle.std.proofs.Common.{◌≡◌, ℕ, ◌+◌, ◌≤◌, List, [], ◌∷◌, refl, sym, ap, ◌∙◌, arith}
use Rattle.std.specs.Prelude.{All, sum_by}
use Rattle.std.proofs.lemmas.List.Sums.{sum_by-cons}
use Rattle.std.proofs.lemmas.List.Elements.{All-nil, All-cons, All-head, All-tail}

-- numbers that are the same for each item have the same sum
pub same_sums : {A : Type 0} (f g : A → ℕ) (xs : List A) → All (λ x. f x ≡ g x) xs → sum_by f xs ≡ sum_by g xs
same_sums f g [] same = refl
same_sums f g (x ∷ xs) same = sum_by-cons f x xs
    ∙ (ap (λ (n : ℕ). n + sum_by f xs) (All-head (λ y. f y ≡ g y) x xs same) ∙ (ap (λ (n : ℕ). g x + n) (same_sums f g xs (All-tail (λ y. f y ≡ g y) x xs same)) ∙ sym (sum_by-cons g x xs)))

-- no item's number is above the sum
pub within_sum : {A : Type 0} (f : A → ℕ) (xs : List A) → All (λ x. f x ≤ sum_by f xs) xs
within_sum f xs = below f xs (sum_by f xs) (omega arith)
  where
    below : {A : Type 0} (f : A → ℕ) (xs : List A) (n : ℕ) → sum_by f xs ≤ n → All (λ x. f x ≤ n) xs
    below f [] n le = All-nil (λ x. f x ≤ n)
    below f (x ∷ xs) n le = All-cons (λ x. f x ≤ n) x xs (omega (arith, le, sum_by-cons f x xs)) (below f xs n (omega (arith, le, sum_by-cons f x xs)))
