use Rattle.ice_encoding.proofs.Smallest.{plain_least}
use Rattle.ice_encoding.proofs.laws.smallest_spellings.Goals as goal

pub returns : goal.returns
returns c = λ t kind. plain_least t kind
