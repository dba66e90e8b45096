use Rattle.std.proofs.Common.{length, Some}
use Rattle.ice_proxy.specs.Taking.{Appends}
use Rattle.ice_proxy.proofs.reading.append_letters.Given as goal

abbrev pub invariant-loop-rest : goal.invariant-loop-rest
invariant-loop-rest l = Appends l.mark l.bytes l.initial.out.items l.out.items (Some l.rest)

abbrev pub decreases-loop-rest : goal.decreases-loop-rest
decreases-loop-rest l = length l.rest
