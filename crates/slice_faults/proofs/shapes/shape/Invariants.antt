use Rattle.std.proofs.Common.{◌≡◌, ◌≤◌, ◌+◌, ◌-◌, ◌++◌, List, length, reverse}
use Rattle.std.specs.Map.{values_of}
use Rattle.ice_types.specs.declared.declarations.Member.{Member}
use Rattle.slice_meaning.specs.Members.{required, optional}
use Rattle.slice_faults.proofs.Rising.{AreKeyed}
use Rattle.slice_faults.proofs.shapes.shape.Given as goal

abbrev pub invariant-loop-member : goal.invariant-loop-member
invariant-loop-member l = (done : List Member) × (l.members ++ done ≡ l.fn.members) × (reverse l.required.items ≡ required done) × (values_of l.optional.entries ≡ optional done)
    × AreKeyed l.optional.entries (l.total - length l.members + 1) × (length l.members ≤ l.total)

abbrev pub decreases-loop-member : goal.decreases-loop-member
decreases-loop-member l = length l.members
