use Rattle.ice_encoding.proofs.Encapsulations.{encapsulation_apart}
use Rattle.ice_encoding.proofs.laws.encapsulations_apart.Goals as goal

pub returns : goal.returns
returns c = λ t kind. encapsulation_apart t kind
