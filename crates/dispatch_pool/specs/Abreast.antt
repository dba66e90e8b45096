-- Rows side by side.
use Rattle.std.specs.Prelude.{◌≡◌, ℕ, ◌<◌, List, length, slice_index_or}

module _ {A B : Type 0} where
  -- it holds of the items of both rows at each place below n
  abbrev pub Both : (ℕ → A → B → Type 0) → ℕ → List A → List B → Type 0
  Both Is n xs ys = (i : ℕ) (x : A) (y : B) → i < n → Is i (slice_index_or xs i x) (slice_index_or ys i y)

  -- the rows are of one length, and it holds of their items at each place
  pub record Beside (Is : ℕ → A → B → Type 0) (xs : List A) (ys : List B) : Type 0 where
    pub one_each : length ys ≡ length xs
    pub each : Both Is (length xs) xs ys

module _ {A B C : Type 0} where
  -- the same of three rows
  abbrev pub AllThree : (ℕ → A → B → C → Type 0) → ℕ → List A → List B → List C → Type 0
  AllThree Is n xs ys zs = (i : ℕ) (x : A) (y : B) (z : C) → i < n → Is i (slice_index_or xs i x) (slice_index_or ys i y) (slice_index_or zs i z)

  pub record Abreast (Is : ℕ → A → B → C → Type 0) (xs : List A) (ys : List B) (zs : List C) : Type 0 where
    pub one_each : (length ys ≡ length xs) × (length zs ≡ length xs)
    pub each : AllThree Is (length xs) xs ys zs
