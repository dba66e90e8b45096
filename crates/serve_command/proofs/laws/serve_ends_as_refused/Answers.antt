use Rattle.serve_command.proofs.Caused.{ends_as_refused}
use Rattle.serve_command.proofs.laws.serve_ends_as_refused.Goals as goal

pub returns : goal.returns
returns c = ends_as_refused
