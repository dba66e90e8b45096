use Rattle.call_world.proofs.Runs.{logged_lem}
use Rattle.call_world.proofs.laws.dispatches_logged.Goals as goal

pub returns : goal.returns
returns g c = logged_lem g.S.Service.rules
