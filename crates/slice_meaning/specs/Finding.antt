-- What is found by name and scope.
use Rattle.std.specs.Prelude.{ℕ, ◌≡◌, ◌<◌, ◌≤◌, ◌&&◌, ◌==◌, Bool, Option, None, Some, cond, bytes_eq}
use Rattle.slice_meaning.specs.Names.{Name}
use Rattle.slice_meaning.specs.declared.by_name.ByName.{ByName}
use Rattle.slice_meaning.specs.declared.lowered.Lowered.{Lowered}
use Rattle.slice_meaning.specs.Held.{at_name, has_key}

-- the number of the declaration of a name in a scope
abbrev pub number_at : ByName → Name → ℕ → Option ℕ
number_at by_name = at_name by_name.ids by_name.numbers

-- a name in lower case is in a scope
abbrev pub has_lowered : Lowered → Name → ℕ → Bool
has_lowered lowered = has_key lowered.names

-- each name finds in each scope what it found before
abbrev pub IsSame : {A : Type 0} → (Name → ℕ → A) → (Name → ℕ → A) → Type 0
IsSame before after = (word : Name) (n : ℕ) → after word n ≡ before word n

-- so it does, but this name in this scope, which finds x
abbrev pub IsChanged : {A : Type 0} → Name → ℕ → A → (Name → ℕ → A) → (Name → ℕ → A) → Type 0
IsChanged name scope x before after =
    (word : Name) (n : ℕ) → after word n ≡ cond (scope == n && bytes_eq name word) x (before word n)

-- The last scope, up to this one, that has a number, and that number. None where none has.
abbrev pub IsNearest : (ℕ → Option ℕ) → ℕ → Option (ℕ × ℕ) → Type 0
IsNearest numbers scope None = (n : ℕ) → n ≤ scope → numbers n ≡ None
IsNearest numbers scope (Some found) = (found.0 ≤ scope) × (numbers found.0 ≡ Some found.1) × ((n : ℕ) → found.0 < n → n ≤ scope → numbers n ≡ None)
