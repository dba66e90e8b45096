use Rattle.ice_messages.proofs.Cuts.{message_cut}
use Rattle.ice_messages.proofs.laws.cut_message.Goals as goal

pub returns : goal.returns
returns c = message_cut
