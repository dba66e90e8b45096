use Rattle.graph_json.proofs.Noted.{same_notation, equal_notations}
use Rattle.graph_json.proofs.laws.notations_equal.Goals as goal

pub returns-clause-same : goal.returns-clause-same
returns-clause-same c = same_notation

pub returns-clause-equal : goal.returns-clause-equal
returns-clause-equal c = equal_notations
