use Rattle.graph_laws.proofs.SoundThere.{numbered_sound}
use Rattle.graph_laws.proofs.schema_laws.plain_spelled.Goals as goal

pub returns : goal.returns
returns c = numbered_sound
