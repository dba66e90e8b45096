use Rattle.call_world.proofs.Runs.{sound_lem}
use Rattle.call_world.proofs.laws.connections_sound.Goals as goal

pub returns : goal.returns
returns g c = sound_lem g.S.Service.rules
