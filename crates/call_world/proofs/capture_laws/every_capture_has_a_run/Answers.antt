use Rattle.call_world.proofs.Showing.{show_lem}
use Rattle.call_world.proofs.capture_laws.every_capture_has_a_run.Goals as goal

pub returns : goal.returns
returns g c = show_lem g.S.Capture.status g.S.Capture.repeatable
