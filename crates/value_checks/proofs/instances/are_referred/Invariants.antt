use Rattle.std.proofs.Common.{◌↔◌, drop}
use Rattle.ice_encoding.specs.TypedGraph.{AreReferred, RefersIn}
use Rattle.value_checks.proofs.instances.are_referred.Given as goal

abbrev pub invariant-loop-name : goal.invariant-loop-name
invariant-loop-name l = AreReferred (RefersIn l.schema l.graph.instances) l.names ↔ AreReferred (RefersIn l.schema l.graph.instances) (drop l.name-index l.names)
