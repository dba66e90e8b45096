use Rattle.gate_command.proofs.OneRefusal.{are_single}
use Rattle.gate_command.proofs.laws.gate_refusals_are_single.Goals as goal

pub returns : goal.returns
returns c = are_single
