use Rattle.std.proofs.Common.{◌≡◌, drop}
use Rattle.dispatch_pool.specs.Lanes.{AreOf}
use Rattle.dispatch_pool.proofs.Calls.{BatchDid, batch_state}
use Rattle.dispatch_pool.proofs.handling.serve_batch.Given as goal

abbrev pub invariant-loop-call : goal.invariant-loop-call
invariant-loop-call g l = record {
  of : AreOf l.service.lanes.now l.passes;
  state : l.server ≡ batch_state (drop l.call-index l.calls);
  did : BatchDid l.service.lanes.now.keys l.fn.passes.passes.items l.passes.passes.items l.calls (drop l.call-index l.calls);
}
