use Rattle.std.proofs.Common.{◌↔◌, ◌≤◌, drop, length, map}
use Rattle.ice_types.specs.declared.schema.TheConstants.{MOST_DEPTH}
use Rattle.ice_encoding.specs.Typed.{EachOf, HasType}
use Rattle.ice_encoding.specs.TypedGraph.{RefersIn}
use Rattle.graph_arena.specs.View.{view_all}
use Rattle.value_parts.specs.Shapes.{without_tag}
use Rattle.value_checks.proofs.members.are_required.Given as goal

abbrev pub invariant-loop-member : goal.invariant-loop-member
invariant-loop-member l = record {
  within : l.at ≤ length l.values;
  rest : EachOf (HasType l.schema (RefersIn l.schema l.graph.instances) MOST_DEPTH) (map (λ m. m.kind) (without_tag l.members)) (view_all l.values)
      ↔ EachOf (HasType l.schema (RefersIn l.schema l.graph.instances) MOST_DEPTH) (map (λ m. m.kind) (without_tag (drop l.member-index l.members))) (view_all (drop l.at l.values));
}
