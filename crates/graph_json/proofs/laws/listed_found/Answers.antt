use Rattle.graph_json.proofs.Listed.{graph_found}
use Rattle.graph_json.proofs.laws.listed_found.Goals as goal

pub returns : goal.returns
returns c = graph_found
