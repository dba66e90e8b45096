use Rattle.std.proofs.Common.{◌≡◌, ◌++◌, length}
use Rattle.std.specs.Map.{values_of}
use Rattle.slice_faults.proofs.shapes.rising.Given as goal

abbrev pub invariant-loop-member : goal.invariant-loop-member
invariant-loop-member l = l.members ++ values_of l.optional.entries ≡ values_of l.fn.optional.entries

abbrev pub decreases-loop-member : goal.decreases-loop-member
decreases-loop-member l = length l.optional.entries
