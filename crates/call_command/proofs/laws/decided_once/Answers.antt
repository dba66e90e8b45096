use Rattle.call_command.proofs.OneDecision.{decided_once}
use Rattle.call_command.proofs.laws.decided_once.Goals as goal

pub returns : goal.returns
returns c = decided_once
