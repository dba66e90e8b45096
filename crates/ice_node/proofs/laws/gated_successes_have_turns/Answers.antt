use Rattle.ice_node.proofs.Passing.{gated_successes}
use Rattle.ice_node.proofs.laws.gated_successes_have_turns.Goals as goal

pub returns : goal.returns
returns c = gated_successes
