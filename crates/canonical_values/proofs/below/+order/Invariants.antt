use Rattle.std.proofs.Common.{◌≤◌, ◌+◌, ◌*◌, length}
use Rattle.canonical_values.specs.Standing.{kinds_of}
use Rattle.canonical_values.proofs.Keyed.{Decide}
use Rattle.canonical_values.proofs.below.+order.Given as goal

abbrev pub decreases-are_below : goal.decreases-are_below
decreases-are_below l = 2 * l.levels + 1

abbrev pub decreases-is_below : goal.decreases-is_below
decreases-is_below l = 2 * l.levels

abbrev pub invariant-are_below-loop-next : goal.invariant-are_below-loop-next
invariant-are_below-loop-next l = record { first : l.at ≤ length l.first; second : l.at ≤ length l.second; decide : Decide l.schema l.levels (kinds_of l.members) l.first l.second l.next l.at }
