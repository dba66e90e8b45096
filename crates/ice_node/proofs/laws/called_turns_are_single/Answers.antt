use Rattle.ice_node.proofs.Calling.{called_turns}
use Rattle.ice_node.proofs.laws.called_turns_are_single.Goals as goal

pub returns : goal.returns
returns c = called_turns
