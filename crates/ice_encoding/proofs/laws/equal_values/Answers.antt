use Rattle.ice_encoding.proofs.Plain.{value_same, value_equal}
use Rattle.ice_encoding.proofs.laws.equal_values.Goals as goal

pub returns-clause-values : goal.returns-clause-values
returns-clause-values c = λ t kind. value_same t kind

pub returns-clause-bytes : goal.returns-clause-bytes
returns-clause-bytes c = λ t kind. value_equal t kind
