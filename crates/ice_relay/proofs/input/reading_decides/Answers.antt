use Rattle.ice_relay.proofs.Decided.{read_decides}
use Rattle.ice_relay.proofs.input.reading_decides.Goals as goal

pub returns : goal.returns
returns c = read_decides
