use Rattle.graph_json.specs.Canonical.{instance_noted, items_noted}
use Rattle.graph_json.proofs.Printing.{IsLeft}
use Rattle.graph_json.proofs.writing.write_instances.Given as goal

abbrev pub invariant-loop-at : goal.invariant-loop-at
invariant-loop-at l = IsLeft (items_noted (instance_noted l.schema)) l.graph.instances l.at l.initial.out l.out
