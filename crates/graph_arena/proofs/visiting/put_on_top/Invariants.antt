use Rattle.std.proofs.Common.{◌≡◌, ◌++◌, length}
use Rattle.graph_arena.specs.Listing.{from_top}
use Rattle.graph_arena.proofs.visiting.put_on_top.Given as goal

abbrev pub invariant-loop-name : goal.invariant-loop-name
invariant-loop-name l = l.names ++ from_top l.stack ≡ l.fn.names ++ from_top l.fn.stack

abbrev pub decreases-loop-name : goal.decreases-loop-name
decreases-loop-name l = length l.names
