use Rattle.ice_relay.proofs.Twice.{two_decides}
use Rattle.ice_relay.proofs.input.two_decided.Goals as goal

pub returns : goal.returns
returns c = two_decides
