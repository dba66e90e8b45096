use Rattle.graph_json.proofs.GraphCanon.{graph_canon}
use Rattle.graph_json.proofs.laws.graphs_noted.Goals as goal

pub returns : goal.returns
returns c = graph_canon
