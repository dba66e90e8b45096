use Rattle.graph_json.proofs.ContentTyped.{content_is_typed}
use Rattle.graph_json.proofs.value_laws.content_typed.Goals as goal

pub returns : goal.returns
returns c = content_is_typed
