use Rattle.graph_json.proofs.ContentNoted.{content_apart}
use Rattle.graph_json.proofs.value_laws.content_apart.Goals as goal

pub returns : goal.returns
returns c = content_apart
