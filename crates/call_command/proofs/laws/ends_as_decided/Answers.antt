use Rattle.call_command.proofs.OneDecision.{ends_as_decided}
use Rattle.call_command.proofs.laws.ends_as_decided.Goals as goal

pub returns : goal.returns
returns c = ends_as_decided
