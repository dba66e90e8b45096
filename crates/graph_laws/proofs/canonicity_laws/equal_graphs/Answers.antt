use Rattle.graph_laws.proofs.Schemas.{equal_is_same, written_equal_is_same, read_equal_is_same}
use Rattle.graph_laws.proofs.Canonicity.{same_bytes}
use Rattle.graph_laws.proofs.canonicity_laws.equal_graphs.Goals as goal

pub returns-clause-same : goal.returns-clause-same
returns-clause-same c = same_bytes

pub returns-clause-bytes : goal.returns-clause-bytes
returns-clause-bytes c = equal_is_same

pub returns-clause-written : goal.returns-clause-written
returns-clause-written c = written_equal_is_same

pub returns-clause-read : goal.returns-clause-read
returns-clause-read c = read_equal_is_same
