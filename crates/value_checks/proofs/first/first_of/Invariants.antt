use Rattle.std.proofs.Common.{ℕ, ◌<◌}
use Rattle.std.specs.Prelude.{slice_index}
use Rattle.value_checks.specs.First.{IsFine}
use Rattle.value_checks.proofs.first.first_of.Given as goal

abbrev pub invariant-loop-place : goal.invariant-loop-place
invariant-loop-place l = (k : ℕ) → k < l.place-index → IsFine l.schema l.graph (slice_index l.places k)
