use Rattle.graph_json.proofs.Noted.{noted_same}
use Rattle.graph_json.proofs.laws.notations_apart.Goals as goal

pub returns : goal.returns
returns c = noted_same
