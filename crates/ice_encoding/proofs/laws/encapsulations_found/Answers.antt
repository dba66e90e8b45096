use Rattle.ice_encoding.proofs.Encapsulations.{encapsulation_found}
use Rattle.ice_encoding.proofs.laws.encapsulations_found.Goals as goal

pub returns : goal.returns
returns c = λ t kind. encapsulation_found t kind
