use Rattle.ice_encoding.proofs.Plain.{plain_levels}
use Rattle.ice_encoding.proofs.laws.levels_suffice.Goals as goal

pub returns : goal.returns
returns c = λ t kind. plain_levels t kind
