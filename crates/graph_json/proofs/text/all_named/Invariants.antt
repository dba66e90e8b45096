use Rattle.std.proofs.Common.{map, take}
use Rattle.graph_arena.specs.Seen.{view_instance}
use Rattle.graph_json.specs.Listed.{AreNamed}
use Rattle.graph_json.proofs.text.all_named.Given as goal

abbrev pub invariant-loop-instance : goal.invariant-loop-instance
invariant-loop-instance l = AreNamed l.count (map view_instance (take l.instance-index l.instances))
