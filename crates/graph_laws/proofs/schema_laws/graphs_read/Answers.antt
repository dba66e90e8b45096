use Rattle.graph_laws.proofs.GraphsThere.{numbered_there}
use Rattle.graph_laws.proofs.schema_laws.graphs_read.Goals as goal

pub returns : goal.returns
returns c = numbered_there
