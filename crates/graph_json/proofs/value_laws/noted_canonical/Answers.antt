use Rattle.graph_json.proofs.Canon.{plain_canon}
use Rattle.graph_json.proofs.value_laws.noted_canonical.Goals as goal

pub returns : goal.returns
returns c = plain_canon
