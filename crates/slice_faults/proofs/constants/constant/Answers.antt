use Rattle.slice_faults.specs.Held.{known_of}
use Rattle.slice_faults.proofs.Free.{free_new}
use Rattle.slice_faults.proofs.constants.constant.Goals as goal

pub declare-requires : goal.declare-requires
declare-requires c = free_new (known_of c.args.known.now) c.args.word.now c.in_ok-fault.fault _ _ c.is_none.ensures c.if-is_none.true c.in_ok-fault.ensures
