-- What stands at the front of bytes.
use Rattle.std.specs.Prelude.{ℕ, ◌≤◌, ◌≡◌, List, length, take}

-- the first so many bytes are those that are put for this, which is of its sort
abbrev pub IsFront : {A : Type 0} → (A → Type 0) → (A → List ℕ) → List ℕ → A → ℕ → Type 0
IsFront Is put bytes x n = (n ≤ length bytes) × Is x × (take n bytes ≡ put x)
