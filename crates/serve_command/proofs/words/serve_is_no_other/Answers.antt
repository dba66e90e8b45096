use Rattle.serve_command.proofs.NoOther.{no_other}
use Rattle.serve_command.proofs.words.serve_is_no_other.Goals as goal

pub returns : goal.returns
returns c = no_other
