use Rattle.std.proofs.Common.{◌≤◌, length}
use Rattle.canonical_values.specs.Standing.{kinds_of}
use Rattle.canonical_values.specs.Frames.{MembersPassed}
use Rattle.canonical_values.proofs.member.pass_leaves.Given as goal

abbrev pub invariant-loop-next : goal.invariant-loop-next
invariant-loop-next l = record { within : l.at ≤ length l.input; passed : MembersPassed l.schema l.input (kinds_of l.members) l.fn.first l.fn.start l.next l.at }
