use Rattle.ice_relay.specs.Relaying.{one_value}
use Rattle.ice_relay.proofs.Noted.{bytes_same}
use Rattle.ice_relay.proofs.laws.noted_bytes.Goals as goal

pub returns : goal.returns
returns c = λ t kind. bytes_same t (one_value kind)
