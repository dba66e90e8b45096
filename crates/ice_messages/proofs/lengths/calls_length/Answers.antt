use Rattle.std.proofs.Common.{length}
use Rattle.std.specs.List.{flat_map}
use Rattle.ice_messages.specs.Calls.{call}
use Rattle.ice_messages.proofs.Sums.{none_more}
use Rattle.ice_messages.proofs.lengths.calls_length.Goals as goal

pub returns : goal.returns
returns c = none_more call.put c.args.calls.now c.loop-call.call-index c.loop-call.length (length (flat_map call.put c.args.calls.now)) c.loop-call-test.false c.loop-call.invariant.fits c.loop-call.invariant.so_far
