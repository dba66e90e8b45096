use Rattle.std.proofs.Common.{◌≡◌, drop}
use Rattle.std.specs.Prelude.{flat_map}
use Rattle.slice_meaning.specs.Checking.{noted}
use Rattle.slice_meaning.specs.Members.{op_faults}
use Rattle.slice_faults.specs.Held.{known_of}
use Rattle.slice_faults.proofs.interfaces.note_operations.Given as goal

abbrev pub invariant-loop-op : goal.invariant-loop-op
invariant-loop-op l = noted l.found.first (flat_map (op_faults (known_of l.known)) (drop l.op-index l.ops)) ≡ noted l.fn.found.first (flat_map (op_faults (known_of l.known)) l.ops)
