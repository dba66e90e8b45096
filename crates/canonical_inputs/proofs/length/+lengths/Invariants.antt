use Rattle.std.proofs.Common.{◌≤◌, ◌+◌, ◌*◌, length}
use Rattle.canonical_inputs.proofs.length.+lengths.Given as goal

abbrev pub decreases-value_length : goal.decreases-value_length
decreases-value_length l = 3 * l.levels

abbrev pub decreases-pair_length : goal.decreases-pair_length
decreases-pair_length l = 3 * l.levels + 1

abbrev pub decreases-items_length : goal.decreases-items_length
decreases-items_length l = 3 * l.levels + 2

abbrev pub decreases-pairs_length : goal.decreases-pairs_length
decreases-pairs_length l = 3 * l.levels + 2

abbrev pub decreases-members_length : goal.decreases-members_length
decreases-members_length l = 3 * l.levels + 1

abbrev pub invariant-items_length-loop : goal.invariant-items_length-loop
invariant-items_length-loop l = l.at ≤ length l.bytes

abbrev pub invariant-pairs_length-loop : goal.invariant-pairs_length-loop
invariant-pairs_length-loop l = l.at ≤ length l.bytes

abbrev pub invariant-members_length-loop-next : goal.invariant-members_length-loop-next
invariant-members_length-loop-next l = l.at ≤ length l.bytes
