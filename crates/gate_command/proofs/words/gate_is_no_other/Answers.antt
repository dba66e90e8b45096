use Rattle.gate_command.proofs.NoOther.{no_other}
use Rattle.gate_command.proofs.words.gate_is_no_other.Goals as goal

pub returns : goal.returns
returns c = no_other
