use Rattle.gate_command.proofs.Caused.{ends_for_cause}
use Rattle.gate_command.proofs.laws.gate_ends_for_cause.Goals as goal

pub returns : goal.returns
returns c = ends_for_cause
