use Rattle.graph_json.proofs.NotedValues.{plain_apart}
use Rattle.graph_json.proofs.value_laws.noted_apart.Goals as goal

pub returns : goal.returns
returns c = plain_apart
