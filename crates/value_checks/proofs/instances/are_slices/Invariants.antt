use Rattle.std.proofs.Common.{◌↔◌, drop}
use Rattle.ice_encoding.specs.TypedGraph.{RefersIn}
use Rattle.graph_arena.specs.Seen.{view_slices}
use Rattle.value_parts.specs.SlicedType.{rows_of}
use Rattle.value_checks.specs.First.{AreSlices}
use Rattle.value_checks.proofs.instances.are_slices.Given as goal

abbrev pub invariant-loop-at : goal.invariant-loop-at
invariant-loop-at l =
    AreSlices (rows_of l.sort l.schema) (RefersIn l.schema l.graph.instances) (view_slices l.slices)
    ↔ AreSlices (rows_of l.sort l.schema) (RefersIn l.schema l.graph.instances) (view_slices (drop l.at l.slices))
