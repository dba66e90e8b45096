use Rattle.std.proofs.Common.{length, ◌-◌, ◌≡◌, drop}
use Rattle.std.specs.BTreeSet.{contains_text}
use Rattle.slice_check.specs.Held.{unloaded}
use Rattle.slice_check.proofs.including.next_new.Given as goal

abbrev pub invariant-loop-at : goal.invariant-loop-at
invariant-loop-at l = unloaded (contains_text l.names.held) (drop l.at l.included) ≡ unloaded (contains_text l.names.held) (drop l.from l.included)

abbrev pub decreases-loop-at : goal.decreases-loop-at
decreases-loop-at l = length l.included - l.at
