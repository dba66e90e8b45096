use Rattle.call_command.proofs.Winning.{stops_for_cause}
use Rattle.call_command.proofs.laws.stops_for_cause.Goals as goal

pub returns : goal.returns
returns c = stops_for_cause
