use Rattle.std.proofs.Common.{length}
use Rattle.ice_proxy.specs.Grammar.{endpoints_at}
use Rattle.ice_proxy.proofs.EndpointLoop.{Goes}
use Rattle.ice_proxy.proofs.endpoints.take_endpoints.Given as goal

abbrev pub invariant-loop-endpoints : goal.invariant-loop-endpoints
invariant-loop-endpoints l = Goes l.endpoints l.words (endpoints_at l.initial.words)

abbrev pub decreases-loop-endpoints : goal.decreases-loop-endpoints
decreases-loop-endpoints l = length l.words.bytes
