use Rattle.graph_arena.proofs.Taking.{HasPlacesFrom}
use Rattle.graph_arena.proofs.renumbering.index_of.Given as goal

abbrev pub invariant-loop-at : goal.invariant-loop-at
invariant-loop-at l = HasPlacesFrom l.at l.count l.names l.index.items

abbrev pub decreases-loop-at : goal.decreases-loop-at
decreases-loop-at l = l.at
