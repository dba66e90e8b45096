use Rattle.call_world.proofs.Possible.{succeed_lem}
use Rattle.call_world.proofs.laws.calls_can_succeed.Goals as goal

pub returns : goal.returns
returns g c = succeed_lem g.S.Service.rules
