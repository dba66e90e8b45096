use Rattle.std.proofs.Common.{ℕ, ◌<◌}
use Rattle.class_slices.specs.Unknown.{IsUnknownAt}
use Rattle.class_slices.proofs.unknown.first_of.Given as goal

abbrev pub invariant-loop-place : goal.invariant-loop-place
invariant-loop-place l = (k : ℕ) → k < l.place-index → IsUnknownAt l.graph l.places k → ⊥
