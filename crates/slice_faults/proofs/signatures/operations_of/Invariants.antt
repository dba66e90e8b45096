use Rattle.std.proofs.Common.{◌≡◌, ◌++◌, map, drop}
use Rattle.slice_meaning.specs.Members.{op_of}
use Rattle.slice_faults.specs.Held.{known_of}
use Rattle.slice_faults.proofs.signatures.operations_of.Given as goal

abbrev pub invariant-loop-op : goal.invariant-loop-op
invariant-loop-op l = l.rows ++ map (op_of (known_of l.known)) (drop l.op-index l.ops) ≡ map (op_of (known_of l.known)) l.ops
