use Rattle.std.proofs.Common.{ℕ, ◌<◌}
use Rattle.value_checks.specs.First.{IsFine}
use Rattle.value_checks.proofs.first.least_unmarked.Given as goal

abbrev pub invariant-loop-at : goal.invariant-loop-at
invariant-loop-at l = (m : ℕ) → m < l.at → IsFine l.schema l.graph m
