use Rattle.ice_encoding.proofs.Encapsulations.{relayed_as_it_is}
use Rattle.ice_encoding.proofs.laws.relaying_again.Goals as goal

pub returns : goal.returns
returns c = λ t kind. relayed_as_it_is t kind
