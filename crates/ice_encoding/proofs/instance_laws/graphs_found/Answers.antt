use Rattle.ice_encoding.proofs.Graphs.{numbered_found}
use Rattle.ice_encoding.proofs.instance_laws.graphs_found.Goals as goal

pub returns : goal.returns
returns c = numbered_found
