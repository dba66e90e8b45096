use Rattle.ice_gateway.proofs.Dead.{forwards_once}
use Rattle.gate_command.proofs.Caused.{gates_once_by}
use Rattle.gate_command.proofs.laws.gates_once.Goals as goal

pub returns : goal.returns
returns c = gates_once_by forwards_once
