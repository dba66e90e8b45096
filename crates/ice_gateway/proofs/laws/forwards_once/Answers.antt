use Rattle.ice_gateway.proofs.Dead.{forwards_once}
use Rattle.ice_gateway.proofs.laws.forwards_once.Goals as goal

pub returns : goal.returns
returns c = forwards_once
