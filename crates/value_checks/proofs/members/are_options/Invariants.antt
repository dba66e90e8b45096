use Rattle.std.proofs.Common.{◌↔◌, drop, None}
use Rattle.ice_encoding.specs.TypedGraph.{AreOptions, RefersIn}
use Rattle.graph_arena.specs.Seen.{view_present}
use Rattle.value_parts.specs.Shapes.{with_tag}
use Rattle.value_checks.proofs.members.are_options.Given as goal

abbrev pub invariant-loop-option : goal.invariant-loop-option
invariant-loop-option l =
    AreOptions l.schema (RefersIn l.schema l.graph.instances) (with_tag l.members) None (view_present l.options)
    ↔ AreOptions l.schema (RefersIn l.schema l.graph.instances) (with_tag l.members) l.last (view_present (drop l.option-index l.options))
