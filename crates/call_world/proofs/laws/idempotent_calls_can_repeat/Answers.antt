use Rattle.call_world.proofs.Possible.{repeat_lem}
use Rattle.call_world.proofs.laws.idempotent_calls_can_repeat.Goals as goal

pub returns : goal.returns
returns g c = repeat_lem g.S.Service.rules
