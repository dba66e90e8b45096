use Rattle.call_world.proofs.Counted.{refused_lem}
use Rattle.call_world.proofs.capture_laws.refused_never.Goals as goal

pub returns : goal.returns
returns g c = refused_lem g.S.Capture.status g.S.Capture.repeatable
