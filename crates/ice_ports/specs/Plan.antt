-- Which calls of an object in memory fail.
use Rattle.std.specs.Prelude.{ℕ, List, Bool, ◌==◌}
use Rattle.std.specs.List.{list_any}
use Rattle.ice_ports.specs.declared.fault_plan.FaultPlan.{FaultPlan}
use Rattle.ice_ports.specs.Failures.{one_more, count_after}

-- a plan of which no call was made yet
abbrev pub new_plan : List ℕ → FaultPlan
new_plan fails = record { fails = fails; calls = 0; failures = 0 }

-- the next call is listed
abbrev pub fails_now : FaultPlan → Bool
fails_now p = list_any (λ call. call == p.calls) p.fails

-- the plan after a call, which failed or not
abbrev pub after_call : FaultPlan → Bool → FaultPlan
after_call p failed =
    record { fails = p.fails; calls = one_more p.calls; failures = count_after p.failures failed }
