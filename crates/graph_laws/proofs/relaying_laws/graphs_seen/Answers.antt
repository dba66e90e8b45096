use Rattle.graph_laws.proofs.There.{both_of, seen_there}
use Rattle.graph_laws.proofs.relaying_laws.graphs_seen.Goals as goal

pub returns : goal.returns
returns c = λ t u shape other bytes g r fits h. seen_there t u (both_of t u shape other r) shape other r.shapes bytes g fits h
