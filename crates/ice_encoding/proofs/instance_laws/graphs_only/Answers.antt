use Rattle.ice_encoding.proofs.Graphs.{numbered_only}
use Rattle.ice_encoding.proofs.instance_laws.graphs_only.Goals as goal

pub returns : goal.returns
returns c = numbered_only
