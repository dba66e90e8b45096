use Rattle.slice_compat.specs.Marks.{Spreads}
use Rattle.slice_compat.proofs.Meeting.{ClassBefore}
use Rattle.slice_compat.proofs.reached.meet_classes.Given as goal

abbrev pub invariant-loop-at : goal.invariant-loop-at
invariant-loop-at l = Spreads (ClassBefore l.at) l.fn.marks l.marks
