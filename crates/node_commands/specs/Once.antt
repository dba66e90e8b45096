-- What is found once.
use Rattle.std.specs.Prelude.{◌≡◌, Option, Some, None}

-- it holds of what is found and of nothing else, or, where nothing is found, of nothing
abbrev pub Exactly : {A : Type 0} → (A → Type 0) → Option A → Type 0
Exactly {A = A} Is None = (x : A) → Is x → ⊥
Exactly {A = A} Is (Some x) = Is x × ((y : A) → Is y → y ≡ x)
