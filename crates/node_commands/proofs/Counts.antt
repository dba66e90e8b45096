-- A net's count of failed accepts, and why no more came.
use Rattle.std.proofs.Common.{◌≡◌, ◌⊎◌, ℕ, Bool, true, false, ap, ◌∙◌, inl, inr}
use Rattle.std.specs.Prelude.{nat_lt}
use Rattle.ice_ports.specs.Failures.{count_after}

-- a listener whose accepts did not fail came back
pub retired_unused : (old new n : ℕ) → new ≡ count_after old (nat_lt 0 n) → n ≡ 0 → new ≡ old
retired_unused old new n is none = is ∙ ap (λ (z : ℕ). count_after old (nat_lt 0 z)) none

-- one came back whose accept failed, or not
pub retired : (old new n first : ℕ) (failed : Bool) → new ≡ count_after old (nat_lt 0 n) → n ≡ count_after first failed → first ≡ 0 → new ≡ count_after old failed
retired old new n first true is counted none = is ∙ ap (λ (z : ℕ). count_after old (nat_lt 0 z)) (counted ∙ ap (λ (z : ℕ). count_after z true) none)
retired old new n first false is counted none = is ∙ ap (λ (z : ℕ). count_after old (nat_lt 0 z)) (counted ∙ ap (λ (z : ℕ). count_after z false) none)

-- as many as were asked for, or none is to come
pub why_ended : {A B C D : Type 0} → (A × B) ⊎ (C × D) → A ⊎ D
why_ended (inl h) = inl h.0
why_ended (inr h) = inr h.1
