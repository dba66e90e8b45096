use Rattle.gate_command.proofs.Arriving.{successes_arrive}
use Rattle.gate_command.proofs.laws.gate_successes_arrive.Goals as goal

pub returns : goal.returns
returns c = successes_arrive
