use Rattle.ice_node.proofs.Passing.{gated_turns, starved_gated_turns}
use Rattle.ice_node.proofs.laws.gated_turns_are_single.Goals as goal

pub returns-clause-handled : goal.returns-clause-handled
returns-clause-handled c = gated_turns

pub returns-clause-starved : goal.returns-clause-starved
returns-clause-starved c = starved_gated_turns
