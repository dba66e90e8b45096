use Rattle.std.proofs.Common.{true, subst}
use Rattle.ice_types.specs.declared.declarations.Shape.{Shape}
use Rattle.object_adapter.specs.Admitting.{Comes}
use Rattle.object_adapter.proofs.OwnGiven.{own_acted}
use Rattle.object_adapter.proofs.own.act_by.Goals as goal

pub returns : goal.returns
returns c =
    own_acted c.args.schema.now c.args.interface c.args.own c.in_ok-arguments.arguments c.args.call.now c.give-results.result
    (subst (λ (s : Shape). Comes c.args.schema.now true s c.args.call.now c.in_ok-arguments.arguments) c.requires c.in_ok-arguments.ensures.admits) c.give-results.ensures
