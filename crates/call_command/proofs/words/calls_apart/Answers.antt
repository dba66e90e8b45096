use Rattle.call_command.proofs.Wording.{apart}
use Rattle.call_command.proofs.words.calls_apart.Goals as goal

pub returns : goal.returns
returns c = apart
