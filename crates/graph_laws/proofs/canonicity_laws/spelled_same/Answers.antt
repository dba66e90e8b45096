use Rattle.graph_laws.proofs.Sameness.{spelled_are_same}
use Rattle.graph_laws.proofs.canonicity_laws.spelled_same.Goals as goal

pub returns : goal.returns
returns c = spelled_are_same
