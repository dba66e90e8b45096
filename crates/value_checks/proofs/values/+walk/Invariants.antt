use Rattle.std.proofs.Common.{◌↔◌, ◌≤◌, drop, length, map}
use Rattle.ice_encoding.specs.Typed.{AllOf, EachOf, HasType, PairsOf, no_reference}
use Rattle.graph_arena.specs.View.{view_all, view_pairs}
use Rattle.value_checks.specs.References.{MayStand}
use Rattle.value_checks.proofs.values.+walk.Given as goal

abbrev pub invariant-are_of-loop-item : goal.invariant-are_of-loop-item
invariant-are_of-loop-item l =
    AllOf (HasType l.schema (MayStand l.schema l.references) l.levels l.kind) (view_all l.items)
    ↔ AllOf (HasType l.schema (MayStand l.schema l.references) l.levels l.kind) (view_all (drop l.item-index l.items))

abbrev pub invariant-are_pairs_of-loop-pair : goal.invariant-are_pairs_of-loop-pair
invariant-are_pairs_of-loop-pair l =
    PairsOf (HasType l.schema no_reference l.levels l.kinds.0) (HasType l.schema (MayStand l.schema l.references) l.levels l.kinds.1) (view_pairs l.pairs)
    ↔ PairsOf (HasType l.schema no_reference l.levels l.kinds.0) (HasType l.schema (MayStand l.schema l.references) l.levels l.kinds.1) (view_pairs (drop l.pair-index l.pairs))

abbrev pub invariant-are_members-loop-at : goal.invariant-are_members-loop-at
invariant-are_members-loop-at l = record {
  within : l.at ≤ length l.members;
  rest : EachOf (HasType l.schema (MayStand l.schema l.references) l.levels) (map (λ m. m.kind) l.members) (view_all l.items)
      ↔ EachOf (HasType l.schema (MayStand l.schema l.references) l.levels) (map (λ m. m.kind) (drop l.at l.members)) (view_all (drop l.at l.items));
}
