use Rattle.graph_laws.proofs.There.{spelled_there}
use Rattle.graph_laws.proofs.relaying_laws.relays_spelled.Goals as goal

pub returns : goal.returns
returns c = spelled_there
