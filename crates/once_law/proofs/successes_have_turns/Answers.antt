use Rattle.once_law.proofs.Turns.{own_turns}
use Rattle.once_law.proofs.successes_have_turns.Goals as goal

pub returns : goal.returns
returns c = own_turns
