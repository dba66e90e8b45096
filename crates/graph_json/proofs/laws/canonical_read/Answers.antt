use Rattle.graph_json.proofs.Noted.{canonical_again}
use Rattle.graph_json.proofs.laws.canonical_read.Goals as goal

pub returns : goal.returns
returns c = canonical_again
