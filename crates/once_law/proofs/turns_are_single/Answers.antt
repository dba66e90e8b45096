use Rattle.once_law.proofs.Turns.{single_turns}
use Rattle.once_law.proofs.Starved.{starved_turns}
use Rattle.once_law.proofs.turns_are_single.Goals as goal

pub returns-clause-ended : goal.returns-clause-ended
returns-clause-ended c = single_turns

pub returns-clause-starved : goal.returns-clause-starved
returns-clause-starved c = starved_turns
