use Rattle.graph_laws.proofs.RelayedSamples.{lacks_one}
use Rattle.graph_laws.proofs.relaying_laws.one_lacks_a_class.Goals as goal

pub returns : goal.returns
returns c = lacks_one
