use Rattle.ice_messages.proofs.Running.{ran}
use Rattle.ice_messages.proofs.laws.pieces_read.Goals as goal

pub returns : goal.returns
returns c = ran
