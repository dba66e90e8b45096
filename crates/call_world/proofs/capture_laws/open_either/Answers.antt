use Rattle.call_world.proofs.Either.{either_lem}
use Rattle.call_world.proofs.capture_laws.open_either.Goals as goal

pub returns : goal.returns
returns g c = either_lem g.S.Capture.status g.S.Capture.repeatable
