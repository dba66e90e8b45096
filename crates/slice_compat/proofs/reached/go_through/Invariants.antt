use Rattle.slice_compat.specs.Marks.{IsUnderWay, left}
use Rattle.slice_compat.proofs.reached.go_through.Given as goal

abbrev pub invariant-loop-node : goal.invariant-loop-node
invariant-loop-node l = IsUnderWay l.schema l.fn.kind l.marks

abbrev pub decreases-loop-node : goal.decreases-loop-node
decreases-loop-node l = left l.marks
