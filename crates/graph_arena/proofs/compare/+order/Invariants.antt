use Rattle.std.proofs.Common.{◌≡◌, ◌≤◌, drop, length}
use Rattle.ice_encoding.specs.Order.{trees_cmp, entries_cmp}
use Rattle.graph_arena.specs.View.{view_all, view_pairs}
use Rattle.graph_arena.proofs.compare.+order.Given as goal

abbrev pub invariant-compare_each-loop-at : goal.invariant-compare_each-loop-at
invariant-compare_each-loop-at l = record {
  within : l.at ≤ length l.b;
  rest : trees_cmp (view_all l.a) (view_all l.b) ≡ trees_cmp (view_all (drop l.at l.a)) (view_all (drop l.at l.b));
}

abbrev pub invariant-compare_pairs-loop-at : goal.invariant-compare_pairs-loop-at
invariant-compare_pairs-loop-at l = record {
  within : l.at ≤ length l.b;
  rest : entries_cmp (view_pairs l.a) (view_pairs l.b) ≡ entries_cmp (view_pairs (drop l.at l.a)) (view_pairs (drop l.at l.b));
}
