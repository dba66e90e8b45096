use Rattle.graph_json.proofs.NotedValues.{plain_found}
use Rattle.graph_json.proofs.value_laws.noted_found.Goals as goal

pub returns : goal.returns
returns c = plain_found
