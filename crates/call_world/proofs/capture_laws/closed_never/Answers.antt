use Rattle.call_world.proofs.Counted.{closed_lem}
use Rattle.call_world.proofs.capture_laws.closed_never.Goals as goal

pub returns : goal.returns
returns g c = closed_lem g.S.Capture.status g.S.Capture.repeatable
