use Rattle.graph_json.proofs.OfType.{plain_typed}
use Rattle.graph_json.proofs.value_laws.noted_typed.Goals as goal

pub returns : goal.returns
returns c = plain_typed
