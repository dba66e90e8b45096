use Rattle.graph_json.proofs.ContentNoted.{content_found}
use Rattle.graph_json.proofs.value_laws.content_found.Goals as goal

pub returns : goal.returns
returns c = λ t shape. content_found t shape
