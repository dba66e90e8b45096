use Rattle.graph_json.proofs.ContentNoted.{content_only}
use Rattle.graph_json.proofs.value_laws.content_only.Goals as goal

pub returns : goal.returns
returns c = λ t shape d c rules. content_only t shape rules d c
