use Rattle.std.proofs.Common.{◌≡◌, ◌++◌, length}
use Rattle.graph_arena.proofs.sort.in_order.Given as goal

abbrev pub invariant-loop-pair : goal.invariant-loop-pair
invariant-loop-pair l = l.pairs ++ l.map.entries ≡ l.fn.map.entries

abbrev pub decreases-loop-pair : goal.decreases-loop-pair
decreases-loop-pair l = length l.map.entries
