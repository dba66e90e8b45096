use Rattle.std.proofs.Common.{◌≡◌, List, [], map, drop}
use Rattle.slice_meaning.specs.Names.{Name}
use Rattle.slice_meaning.specs.Checking.{noted}
use Rattle.slice_meaning.specs.Clashes.{second_names}
use Rattle.slice_faults.specs.Held.{HoldsNames}
use Rattle.slice_faults.proofs.named.note_names.Given as goal

abbrev pub invariant-loop-part : goal.invariant-loop-part
invariant-loop-part g l = (before : List Name) × HoldsNames l.names.lowered before
    × (noted l.found.first (second_names before (map g.T.Named.word_of (drop l.part-index l.parts))) ≡ noted l.fn.found.first (second_names [] (map g.T.Named.word_of l.parts)))
