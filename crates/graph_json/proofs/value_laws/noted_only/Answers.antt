use Rattle.graph_json.proofs.NotedValues.{plain_only}
use Rattle.graph_json.proofs.value_laws.noted_only.Goals as goal

pub returns : goal.returns
returns c = plain_only
