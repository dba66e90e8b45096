use Rattle.ice_encoding.proofs.Graphs.{numbered_apart}
use Rattle.ice_encoding.proofs.instance_laws.graphs_apart.Goals as goal

pub returns : goal.returns
returns c = numbered_apart
