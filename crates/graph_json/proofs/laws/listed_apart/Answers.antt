use Rattle.graph_json.proofs.Noted.{listed_once}
use Rattle.graph_json.proofs.laws.listed_apart.Goals as goal

pub returns : goal.returns
returns c = listed_once
