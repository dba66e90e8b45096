use Rattle.ice_encoding.proofs.Encapsulations.{encapsulation_canon}
use Rattle.ice_encoding.proofs.laws.encapsulations_canonical.Goals as goal

pub returns : goal.returns
returns c = λ t kind. encapsulation_canon t kind
