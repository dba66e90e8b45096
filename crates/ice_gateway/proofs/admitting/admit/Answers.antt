use Rattle.std.proofs.Common.{subst}
use Rattle.ice_gateway.specs.Laws.{IsRenewed}
use Rattle.ice_gateway.proofs.Fitting.{call_writable}
use Rattle.ice_gateway.proofs.admitting.admit.Goals as goal

pub fitting-requires : goal.fitting-requires
fitting-requires c =
    call_writable c.args.call.now c.in_ok-call_with-in-Written.field-0 c.in-Written.body c.in_ok-call_with-in-Written.ensures c.requires
    (subst IsRenewed c.in-Written.is c.in_ok-body.ensures.short)
