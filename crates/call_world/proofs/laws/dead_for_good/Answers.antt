use Rattle.call_world.proofs.Runs.{dead_lem}
use Rattle.call_world.proofs.laws.dead_for_good.Goals as goal

pub returns : goal.returns
returns g c = dead_lem g.S.Service.rules
