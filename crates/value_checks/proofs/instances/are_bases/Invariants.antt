use Rattle.std.proofs.Common.{◌↔◌, drop}
use Rattle.ice_encoding.specs.TypedGraph.{AreBases, RefersIn}
use Rattle.graph_arena.specs.Seen.{view_slices}
use Rattle.value_parts.specs.SlicedType.{rows_of}
use Rattle.value_checks.proofs.instances.are_bases.Given as goal

abbrev pub invariant-loop-slice : goal.invariant-loop-slice
invariant-loop-slice l =
    AreBases (rows_of l.sort l.schema) (RefersIn l.schema l.graph.instances) l.fn.class (view_slices l.slices)
    ↔ AreBases (rows_of l.sort l.schema) (RefersIn l.schema l.graph.instances) l.next (view_slices (drop l.slice-index l.slices))
