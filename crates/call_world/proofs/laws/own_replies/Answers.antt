use Rattle.call_world.proofs.Runs.{own_replies_lem}
use Rattle.call_world.proofs.laws.own_replies.Goals as goal

pub returns : goal.returns
returns g c = own_replies_lem g.S.Service.rules
