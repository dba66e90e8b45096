use Rattle.ice_encoding.proofs.Plain.{plain_only}
use Rattle.ice_encoding.proofs.laws.values_only.Goals as goal

pub returns : goal.returns
returns c = λ t kind. plain_only t kind
