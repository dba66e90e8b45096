use Rattle.std.proofs.Common.{◌≡◌, take}
use Rattle.ice_gateway.proofs.copies.context_like.Given as goal

abbrev pub invariant-loop-entry : goal.invariant-loop-entry
invariant-loop-entry l = l.copy ≡ take l.entry-index l.context
