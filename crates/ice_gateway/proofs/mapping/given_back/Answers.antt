use Rattle.std.proofs.Common.{subst}
use Rattle.ice_messages.specs.declared.message.Answer.TheVariants.{Missing, Unknown}
use Rattle.ice_gateway.specs.Laws.{CameBack}
use Rattle.ice_gateway.proofs.Replying.{came_back}
use Rattle.ice_gateway.proofs.mapping.given_back.Goals as goal

pub returns-in-Missing-clause-replies : goal.returns-in-Missing-clause-replies
returns-in-Missing-clause-replies c = came_back (Missing c.in-Missing.status c.in-Missing.identity c.in-Missing.facet c.in-Missing.operation) (subst CameBack c.in-Missing.is c.requires) tt

pub returns-in-Unknown-clause-replies : goal.returns-in-Unknown-clause-replies
returns-in-Unknown-clause-replies c = came_back (Unknown c.in-Unknown.status c.in-Unknown.text) (subst CameBack c.in-Unknown.is c.requires) tt
