use Rattle.ice_encoding.proofs.Plain.{plain_sizes}
use Rattle.ice_encoding.proofs.laws.values_have_sizes.Goals as goal

pub returns : goal.returns
returns c = λ t kind. plain_sizes t kind
