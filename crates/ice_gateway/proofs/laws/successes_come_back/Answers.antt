use Rattle.ice_gateway.proofs.Back.{come_back}
use Rattle.ice_gateway.proofs.laws.successes_come_back.Goals as goal

pub returns : goal.returns
returns c = come_back
