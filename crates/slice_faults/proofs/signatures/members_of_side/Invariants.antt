use Rattle.std.proofs.Common.{◌≡◌, ◌++◌, drop}
use Rattle.slice_meaning.specs.Members.{members_of}
use Rattle.slice_faults.specs.Held.{known_of}
use Rattle.slice_faults.specs.Sides.{side}
use Rattle.slice_faults.proofs.signatures.members_of_side.Given as goal

abbrev pub invariant-loop-param : goal.invariant-loop-param
invariant-loop-param l = l.members ++ members_of (known_of l.known) (side l.out (drop l.param-index l.params)) ≡ members_of (known_of l.known) (side l.out l.params)
