use Rattle.std.proofs.Common.{subst}
use Rattle.ice_gateway.specs.Laws.{CanCome}
use Rattle.ice_gateway.proofs.mapping.answer_to.Goals as goal

pub given_back-requires : goal.given_back-requires
given_back-requires c = subst CanCome c.in-Replied.is c.requires
