use Rattle.serve_command.proofs.OneRefusal.{are_single}
use Rattle.serve_command.proofs.laws.refusals_are_single.Goals as goal

pub returns : goal.returns
returns c = are_single
