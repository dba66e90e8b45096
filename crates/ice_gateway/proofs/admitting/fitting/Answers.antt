use Rattle.std.proofs.Common.{pos, arith}
use Rattle.ice_gateway.proofs.Fitting.{fits, goes, stays}
use Rattle.ice_gateway.proofs.admitting.fitting.Goals as goal

pub returns-then-request_length-clause-is : goal.returns-then-request_length-clause-is
returns-then-request_length-clause-is c =
    stays c.args.call c.request_length.result (c.request_length.ensures (pos 1)) c.in_ok-failed.field-0 (omega (arith, c.if-request_length.true)) c.in_ok-failed.ensures.told

pub returns-clause-is : goal.returns-clause-is
returns-clause-is c = goes c.args.call c.request_length.result (c.request_length.ensures (pos 1)) (omega (arith, c.if-request_length.false))

pub returns-clause-sendable : goal.returns-clause-sendable
returns-clause-sendable c = (c.requires, fits c.args.call c.request_length.result (c.request_length.ensures (pos 1)) (omega (arith, c.if-request_length.false)))
