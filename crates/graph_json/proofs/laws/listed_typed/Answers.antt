use Rattle.graph_json.proofs.Values.{listed_values}
use Rattle.graph_json.proofs.laws.listed_typed.Goals as goal

pub returns : goal.returns
returns c = listed_values
