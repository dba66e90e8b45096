use Rattle.ice_messages.proofs.Puts.{this_one}
use Rattle.ice_gateway.specs.Gate.{seen}
use Rattle.ice_gateway.specs.Laws.{Comes}
use Rattle.ice_gateway.proofs.Passing.{put_all, put_next}
use Rattle.ice_gateway.proofs.forwarding.all_going.Goals as goal

pub put_going-requires-clause-comes : goal.put_going-requires-clause-comes
put_going-requires-clause-comes c = (this_one Comes c.args.calls.now c.loop-call.call-index c.call-item.result c.loop-call-test.true c.call-item.is c.loop-call.invariant.come).0

pub loop-call-preserved : goal.loop-call-preserved
loop-call-preserved c =
    let i = c.loop-call.invariant in
    let calls = c.args.calls.now in
    let at = c.loop-call.call-index in
    let call = c.call-item.result in
    record {
      are = put_next (seen c.args.gateway.now) calls at call c.loop-call.all c.put_going.new.all c.loop-call-test.true c.call-item.is c.in_ok-put_going.ensures.put i.are;
      sendable = c.in_ok-put_going.ensures.sendable i.sendable;
      come = (this_one Comes calls at call c.loop-call-test.true c.call-item.is i.come).1;
    }

pub returns-clause-are : goal.returns-clause-are
returns-clause-are c = put_all (seen c.args.gateway.now) c.args.calls.now c.loop-call.call-index c.loop-call.all c.loop-call-test.false c.loop-call.invariant.are
