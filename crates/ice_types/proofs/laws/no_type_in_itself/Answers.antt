use Rattle.ice_types.proofs.Leading.{not_in_itself}
use Rattle.ice_types.proofs.laws.no_type_in_itself.Goals as goal

pub returns : goal.returns
returns c = not_in_itself
