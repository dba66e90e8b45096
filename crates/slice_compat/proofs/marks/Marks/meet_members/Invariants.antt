use Rattle.slice_compat.specs.Marks.{Spreads}
use Rattle.slice_compat.proofs.Meeting.{AmongBefore}
use Rattle.slice_compat.proofs.marks.Marks.meet_members.Given as goal

-- what the members before lead to
abbrev pub invariant-loop-member : goal.invariant-loop-member
invariant-loop-member l = Spreads (AmongBefore l.member-index l.members) l.fn.self l.self
