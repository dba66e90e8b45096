use Rattle.call_world.proofs.Counted.{at_most_lem}
use Rattle.call_world.proofs.capture_laws.each_at_most_once.Goals as goal

pub returns : goal.returns
returns g c = at_most_lem g.S.Capture.status g.S.Capture.repeatable
