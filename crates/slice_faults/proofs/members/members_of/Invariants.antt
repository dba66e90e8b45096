use Rattle.std.proofs.Common.{◌≡◌, ◌++◌, drop}
use Rattle.slice_meaning.specs.Members.{members_of}
use Rattle.slice_faults.specs.Held.{known_of}
use Rattle.slice_faults.proofs.members.members_of.Given as goal

abbrev pub invariant-loop-field : goal.invariant-loop-field
invariant-loop-field l = l.members ++ members_of (known_of l.known) (drop l.field-index l.fields) ≡ members_of (known_of l.known) l.fields
