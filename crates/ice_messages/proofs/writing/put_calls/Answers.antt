use Rattle.ice_messages.specs.Calls.{call}
use Rattle.ice_encoding.specs.declared.limits.TheConstants.{LARGEST}
use Rattle.ice_messages.specs.Written.{IsWritableCall}
use Rattle.std.proofs.Common.{◌++◌}
use Rattle.std.specs.List.{flat_map}
use Rattle.ice_messages.proofs.Putting.{next_put, next_fits}
use Rattle.ice_messages.proofs.Puts.{this_one, one_more}
use Rattle.ice_messages.proofs.writing.put_calls.Goals as goal

pub put_call-requires-clause-writable : goal.put_call-requires-clause-writable
put_call-requires-clause-writable c = (this_one IsWritableCall c.args.items.now c.loop-call.call-index c.call-item.result c.loop-call-test.true c.call-item.is c.loop-call.invariant.writable).0

pub loop-call-preserved : goal.loop-call-preserved
loop-call-preserved c =
    let xs = c.args.items.now in let i = c.loop-call.call-index in let x = c.call-item.result in let lt = c.loop-call-test.true in
    record {
      so_far = next_put call.put xs i x c.loop-call.out.items c.put_call.new.out.items (c.args.out.now.items ++ flat_map call.put xs) lt c.call-item.is c.in_ok-put_call.ensures.0 c.loop-call.invariant.so_far;
      fits = (next_fits call.put xs i x LARGEST lt c.call-item.is c.loop-call.invariant.fits).1;
      writable = (this_one IsWritableCall xs i x lt c.call-item.is c.loop-call.invariant.writable).1;
      each = one_more call.Is xs i x lt c.call-item.is c.in_ok-put_call.ensures.1 c.loop-call.invariant.each;
    }
