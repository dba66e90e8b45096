use Rattle.std.proofs.Common.{◌≡◌, drop}
use Rattle.std.specs.Prelude.{flat_map}
use Rattle.slice_meaning.specs.Checking.{noted}
use Rattle.slice_meaning.specs.Members.{thrown_faults}
use Rattle.slice_faults.specs.Held.{known_of}
use Rattle.slice_faults.proofs.operations.note_thrown.Given as goal

abbrev pub invariant-loop-path : goal.invariant-loop-path
invariant-loop-path l = noted l.found.first (flat_map (thrown_faults (known_of l.known)) (drop l.path-index l.throws)) ≡ noted l.initial.found.first (flat_map (thrown_faults (known_of l.known)) l.throws)
