use Rattle.std.proofs.Common.{◌≡◌, ℕ, List, [], drop}
use Rattle.slice_meaning.specs.Checking.{noted}
use Rattle.slice_meaning.specs.Faults.{bases_faults}
use Rattle.slice_faults.specs.Held.{HoldsNumbers, known_of}
use Rattle.slice_faults.proofs.interfaces.note_bases.Given as goal

abbrev pub invariant-loop-path : goal.invariant-loop-path
invariant-loop-path l = (ns : List ℕ) × HoldsNumbers l.before.numbers ns
    × (noted l.found.first (bases_faults (known_of l.known) ns (drop l.path-index l.bases)) ≡ noted l.fn.found.first (bases_faults (known_of l.known) [] l.bases))
