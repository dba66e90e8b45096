use Rattle.call_world.proofs.Counted.{answered_lem}
use Rattle.call_world.proofs.capture_laws.replied_once.Goals as goal

pub returns : goal.returns
returns g c = answered_lem g.S.Capture.status g.S.Capture.repeatable
