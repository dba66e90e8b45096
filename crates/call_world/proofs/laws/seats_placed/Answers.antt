use Rattle.call_world.proofs.Runs.{seated_lem}
use Rattle.call_world.proofs.laws.seats_placed.Goals as goal

pub returns : goal.returns
returns g c = seated_lem g.S.Service.rules
