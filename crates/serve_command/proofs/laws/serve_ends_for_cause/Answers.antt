use Rattle.serve_command.proofs.Caused.{ends_for_cause}
use Rattle.serve_command.proofs.laws.serve_ends_for_cause.Goals as goal

pub returns : goal.returns
returns c = ends_for_cause
