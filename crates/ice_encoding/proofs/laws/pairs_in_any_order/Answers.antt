use Rattle.ice_encoding.proofs.Same.{inserts_commute}
use Rattle.ice_encoding.proofs.laws.pairs_in_any_order.Goals as goal

pub returns : goal.returns
returns c = inserts_commute
