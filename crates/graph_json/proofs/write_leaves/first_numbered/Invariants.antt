use Rattle.std.proofs.Common.{◌≡◌, drop}
use Rattle.graph_json.specs.CanonicalValues.{name_numbered}
use Rattle.graph_json.proofs.write_leaves.first_numbered.Given as goal

abbrev pub invariant-loop-entry : goal.invariant-loop-entry
invariant-loop-entry l = name_numbered l.number l.entries ≡ name_numbered l.number (drop l.entry-index l.entries)
