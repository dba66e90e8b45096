use Rattle.std.proofs.lemmas.Result.{err_from_is_err_and}
use Rattle.ice_encoding.specs.Parts.{read_times}
use Rattle.ice_encoding.proofs.Times.{goes_on, ends}
use Rattle.ice_messages.specs.Calls.{call}
use Rattle.ice_messages.proofs.reading.take_each.Goals as goal

pub returns-in_err-call : goal.returns-in_err-call
returns-in_err-call c =
    let p = err_from_is_err_and c.from_residual.result c.from_residual.ensures.1 in
    rw (p.1, p.2) (ends call.read c.loop.calls c.args.count c.loop.counter c.loop.cursor (read_times call.read c.args.count c.args.cursor.now) c.loop.invariant c.loop-test.true c.in_err-call.field-0.0 c.in_err-call.ensures)

pub loop-preserved : goal.loop-preserved
loop-preserved c =
    rw c.in_ok-push.ensures.ok (goes_on call.read c.loop.calls c.args.count c.loop.counter c.loop.cursor (read_times call.read c.args.count c.args.cursor.now) c.loop.invariant c.loop-test.true c.in_ok-call.call c.take_call.new.cursor c.in_ok-call.ensures)
