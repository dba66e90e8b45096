use Rattle.graph_json.proofs.Noted.{noted_form}
use Rattle.graph_json.proofs.laws.noted_graphs_typed.Goals as goal

pub returns : goal.returns
returns c = noted_form
