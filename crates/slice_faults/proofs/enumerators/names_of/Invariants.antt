use Rattle.std.proofs.Common.{◌≡◌, drop}
use Rattle.std.specs.Prelude.{◌||◌}
use Rattle.std.specs.BTreeSet.{contains_text}
use Rattle.slice_meaning.specs.Names.{Name}
use Rattle.slice_faults.specs.Enumerators.{has_name}
use Rattle.slice_faults.proofs.enumerators.names_of.Given as goal

abbrev pub invariant-loop-entry : goal.invariant-loop-entry
invariant-loop-entry l = (name : Name) → contains_text l.names name || has_name (drop l.entry-index l.entries) name ≡ has_name l.entries name
