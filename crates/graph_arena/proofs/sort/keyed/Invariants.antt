use Rattle.std.proofs.Common.{◌≡◌, length}
use Rattle.ice_encoding.proofs.Inserting.{join}
use Rattle.graph_arena.specs.View.{view_pairs}
use Rattle.graph_arena.proofs.sort.keyed.Given as goal

abbrev pub invariant-loop-key : goal.invariant-loop-key
invariant-loop-key l = join (view_pairs l.pairs) (view_pairs l.map.entries) ≡ view_pairs l.fn.pairs

abbrev pub decreases-loop-key : goal.decreases-loop-key
decreases-loop-key l = length l.pairs
