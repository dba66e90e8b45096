use Rattle.slice_meaning.specs.Members.{op_faults}
use Rattle.slice_faults.specs.Held.{known_of}
use Rattle.slice_faults.proofs.Noting.{front}
use Rattle.slice_faults.proofs.OpFaults.{flat_next}
use Rattle.slice_faults.proofs.interfaces.note_operations.Goals as goal

pub loop-op-preserved : goal.loop-op-preserved
loop-op-preserved c =
    flat_next (op_faults (known_of c.args.known.now)) c.args.ops.now c.loop-op.op-index c.op-item.result c.loop-op.found.first c.note_operation.new.found.first _
    (front c.args.ops.now c.loop-op.op-index c.op-item.result c.loop-op-test.true c.op-item.is) c.loop-op.invariant c.in_ok-note_operation.ensures
