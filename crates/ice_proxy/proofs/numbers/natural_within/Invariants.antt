use Rattle.std.proofs.Common.{◌≡◌, length, ◌≤◌}
use Rattle.ice_proxy.specs.Numbers as spec
use Rattle.ice_proxy.specs.Telling.{within}
use Rattle.ice_proxy.proofs.numbers.natural_within.Given as goal

abbrev pub invariant-loop-rest : goal.invariant-loop-rest
invariant-loop-rest l = (within l.most (spec.digits_behind l.value l.rest) ≡ within l.most (spec.natural l.word)) × (l.value ≤ l.most)

abbrev pub decreases-loop-rest : goal.decreases-loop-rest
decreases-loop-rest l = length l.rest
