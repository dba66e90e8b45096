use Rattle.std.proofs.Common.{◌≡◌, drop}
use Rattle.graph_json.specs.ReadingValues.{number_named}
use Rattle.graph_json.proofs.enum_names.first_named.Given as goal

abbrev pub invariant-loop-entry : goal.invariant-loop-entry
invariant-loop-entry l = number_named l.name l.entries ≡ number_named l.name (drop l.entry-index l.entries)
