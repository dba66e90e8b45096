use Rattle.ice_encoding.proofs.Smallest.{plain_fixed}
use Rattle.ice_encoding.proofs.laws.fixed_sizes.Goals as goal

pub returns : goal.returns
returns c = λ t kind. plain_fixed t kind
