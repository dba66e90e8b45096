use Rattle.graph_laws.proofs.Relayed.{spelled_back}
use Rattle.graph_laws.proofs.relaying_laws.relays_returned.Goals as goal

pub returns : goal.returns
returns c = spelled_back
