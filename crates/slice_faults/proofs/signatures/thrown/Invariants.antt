use Rattle.std.proofs.Common.{◌≡◌, ◌++◌, drop}
use Rattle.slice_meaning.specs.Uses.{exception_of}
use Rattle.slice_meaning.specs.Members.{named}
use Rattle.slice_faults.specs.Held.{known_of}
use Rattle.slice_faults.proofs.signatures.thrown.Given as goal

abbrev pub invariant-loop-path : goal.invariant-loop-path
invariant-loop-path l = l.places ++ named (exception_of (known_of l.known)) (drop l.path-index l.paths) ≡ named (exception_of (known_of l.known)) l.paths
