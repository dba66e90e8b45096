use Rattle.ice_messages.proofs.Streams.{front_next, next_front}
use Rattle.ice_messages.proofs.laws.fronts_wait.Goals as goal

pub returns : goal.returns
returns c bytes fits = (front_next bytes, next_front bytes fits)
