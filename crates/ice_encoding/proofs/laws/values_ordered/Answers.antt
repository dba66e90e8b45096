use Rattle.ice_encoding.proofs.Plain.{plain_ordered}
use Rattle.ice_encoding.proofs.laws.values_ordered.Goals as goal

pub returns : goal.returns
returns c = λ t kind. plain_ordered t kind
