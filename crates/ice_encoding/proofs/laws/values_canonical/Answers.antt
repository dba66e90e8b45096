use Rattle.ice_encoding.proofs.Plain.{value_spelled, plain_canon}
use Rattle.ice_encoding.proofs.laws.values_canonical.Goals as goal

pub returns-clause-values : goal.returns-clause-values
returns-clause-values c = λ t kind. value_spelled t kind

pub returns-clause-spelled : goal.returns-clause-spelled
returns-clause-spelled c = λ t kind. plain_canon t kind
