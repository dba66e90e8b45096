use Rattle.ice_encoding.proofs.Plain.{plain_apart}
use Rattle.ice_encoding.proofs.laws.values_apart.Goals as goal

pub returns : goal.returns
returns c = λ t kind. plain_apart t kind
