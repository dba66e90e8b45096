use Rattle.std.proofs.Common.{◌≡◌, ◌≤◌, ℕ, List, length}
use Rattle.value_writing.specs.Putting.{InsideWritten}
use Rattle.value_writing.specs.WritingLengths.{GoesOnFrom}
use Rattle.value_writing.specs.WritingMembers.{remaining, members_left, RemainingFits}
use Rattle.value_writing.proofs.members_writer.MembersWriter.go.Given as goal

abbrev pub invariant-loop-name : goal.invariant-loop-name
invariant-loop-name g l = record {
  left : (inside : InsideWritten _) → members_left g.P.PutPort.put inside l.fn.schema l.optional (remaining l.fn.self) (l.fn.port, l.fn.out.items) ≡ members_left g.P.PutPort.put inside l.fn.schema l.optional (remaining l.self) (l.port, l.out.items);
  fits : RemainingFits (remaining l.self) l.out.items;
  room : g.P.PutPort.room l.port ≤ g.P.PutPort.room l.fn.port;
  longer : length l.fn.out.items ≤ length l.out.items;
  keeps : (base : List ℕ) → GoesOnFrom base (remaining l.fn.self).place l.fn.out.items → GoesOnFrom base (remaining l.self).place l.out.items;
}

abbrev pub decreases-loop-name : goal.decreases-loop-name
decreases-loop-name g l = length l.self.optional.now
