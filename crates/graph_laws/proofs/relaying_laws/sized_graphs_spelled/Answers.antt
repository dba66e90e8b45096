use Rattle.graph_laws.proofs.Sized.{sized_readable, readable_spelled}
use Rattle.graph_laws.proofs.relaying_laws.sized_graphs_spelled.Goals as goal

pub returns-clause-read : goal.returns-clause-read
returns-clause-read c = sized_readable

pub returns-clause-spelled : goal.returns-clause-spelled
returns-clause-spelled c = readable_spelled
