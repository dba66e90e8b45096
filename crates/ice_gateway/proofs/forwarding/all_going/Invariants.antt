use Rattle.std.proofs.Common.{◌≡◌, ◌++◌, drop}
use Rattle.ice_encoding.specs.Parts.{Each}
use Rattle.ice_gateway.specs.Gate.{seen}
use Rattle.ice_gateway.specs.Forwarded.{calls_anew}
use Rattle.ice_gateway.specs.Laws.{CanGo, Comes}
use Rattle.ice_gateway.proofs.forwarding.all_going.Given as goal

-- those of the calls so far, and those of what is left
abbrev pub invariant-loop-call : goal.invariant-loop-call
invariant-loop-call l = record {
  are : l.all ++ calls_anew (seen l.gateway) (drop l.call-index l.calls) ≡ calls_anew (seen l.gateway) l.calls;
  sendable : Each CanGo l.all;
  come : Each Comes (drop l.call-index l.calls);
}
