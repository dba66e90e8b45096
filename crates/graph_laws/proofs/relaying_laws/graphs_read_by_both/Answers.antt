use Rattle.graph_laws.proofs.Relayed.{read_by_both}
use Rattle.graph_laws.proofs.relaying_laws.graphs_read_by_both.Goals as goal

pub returns : goal.returns
returns c = read_by_both
