use Rattle.std.proofs.Common.{◌≡◌, ◌≤◌, drop, length}
use Rattle.ice_encoding.specs.Order.{trees_cmp}
use Rattle.graph_arena.specs.View.{byte_trees, view_all}
use Rattle.graph_arena.proofs.compare.compare_bytes.Given as goal

abbrev pub invariant-loop-at : goal.invariant-loop-at
invariant-loop-at l = record {
  within : l.at ≤ length l.items;
  rest : trees_cmp (byte_trees l.bytes) (view_all l.items) ≡ trees_cmp (byte_trees (drop l.at l.bytes)) (view_all (drop l.at l.items));
}
