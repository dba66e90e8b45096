use Rattle.graph_json.specs.ValueNotation.{name_noted}
use Rattle.graph_json.specs.Canonical.{items_noted}
use Rattle.graph_json.proofs.Printing.{IsLeft}
use Rattle.graph_json.proofs.writing.write_names.Given as goal

abbrev pub invariant-loop-name : goal.invariant-loop-name
invariant-loop-name l = IsLeft (items_noted name_noted) l.names l.name-index l.initial.out l.out
