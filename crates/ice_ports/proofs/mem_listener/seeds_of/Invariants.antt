-- The plans before the index have their memory.
use Rattle.std.proofs.Common.{◌≡◌, take}
use Rattle.ice_ports.proofs.mem_listener.seeds_of.Given as goal

abbrev pub invariant-loop-plan : goal.invariant-loop-plan
invariant-loop-plan l = l.seeds ≡ take l.plan-index l.plans
