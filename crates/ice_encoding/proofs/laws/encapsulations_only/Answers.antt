use Rattle.ice_encoding.proofs.Encapsulations.{encapsulation_only}
use Rattle.ice_encoding.proofs.laws.encapsulations_only.Goals as goal

pub returns : goal.returns
returns c = λ t kind. encapsulation_only t kind
