use Rattle.graph_json.proofs.ContentCanon.{own_canon}
use Rattle.graph_json.proofs.value_laws.content_canonical.Goals as goal

pub returns : goal.returns
returns c = own_canon
