use Rattle.std.proofs.Common.{◌≡◌, ◌++◌, drop}
use Rattle.slice_meaning.specs.Uses.{interface_named}
use Rattle.slice_meaning.specs.Members.{named}
use Rattle.slice_faults.specs.Held.{known_of}
use Rattle.slice_faults.proofs.interfaces.bases_of.Given as goal

abbrev pub invariant-loop-path : goal.invariant-loop-path
invariant-loop-path l = l.places ++ named (interface_named (known_of l.known)) (drop l.path-index l.paths) ≡ named (interface_named (known_of l.known)) l.paths
