use Rattle.ice_relay.proofs.Dumped.{noted_again, encoded_again}
use Rattle.ice_relay.proofs.laws.dumped_and_encoded.Goals as goal

pub returns-clause-noted : goal.returns-clause-noted
returns-clause-noted c = λ t kind input text g rules fits holds is. noted_again t kind input text g rules fits holds is

pub returns-clause-encoded : goal.returns-clause-encoded
returns-clause-encoded c = λ t kind f input text g k rules fits holds is lists. encoded_again t kind input text g rules fits holds is f k lists
