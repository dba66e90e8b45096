use Rattle.ice_relay.specs.Relaying.{one_value}
use Rattle.ice_relay.proofs.Deciding.{listed_whole, refused_whole}
use Rattle.ice_relay.proofs.laws.text_decides.Goals as goal

pub returns-clause-listed : goal.returns-clause-listed
returns-clause-listed c = λ t kind. listed_whole t (one_value kind)

pub returns-clause-refused : goal.returns-clause-refused
returns-clause-refused c = λ t kind. refused_whole t (one_value kind)
