use Rattle.gate_command.proofs.Caused.{ends_as_refused}
use Rattle.gate_command.proofs.laws.gate_ends_as_refused.Goals as goal

pub returns : goal.returns
returns c = ends_as_refused
