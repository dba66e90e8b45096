use Rattle.call_world.proofs.Runs.{at_most_once_lem}
use Rattle.call_world.proofs.laws.at_most_once.Goals as goal

pub returns : goal.returns
returns g c = at_most_once_lem g.S.Service.rules
