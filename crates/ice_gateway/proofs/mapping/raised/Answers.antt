use Rattle.std.proofs.Common.{subst}
use Rattle.object_adapter.proofs.Short.{raised_replies}
use Rattle.ice_gateway.specs.Laws.{IsRenewed}
use Rattle.ice_gateway.proofs.mapping.raised.Goals as goal

pub returns-in-Written-clause-replies : goal.returns-in-Written-clause-replies
returns-in-Written-clause-replies c = raised_replies c.in-Written.body (subst IsRenewed c.in-Written.is c.requires)
