use Rattle.ice_encoding.proofs.Plain.{plain_found}
use Rattle.ice_encoding.proofs.laws.values_found.Goals as goal

pub returns : goal.returns
returns c = λ t kind. plain_found t kind
