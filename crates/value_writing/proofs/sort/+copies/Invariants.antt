use Rattle.std.proofs.Common.{◌≡◌, map, take, drop}
use Rattle.ice_encoding.specs.Tree.{no_entry}
use Rattle.value_writing.specs.Sorted.{sorted, sorted_onto, some_has_equal_keys, have_equal_keys}
use Rattle.graph_arena.specs.View.{view, view_all, view_pairs}
use Rattle.value_writing.proofs.Sorting.{equal_onto}
use Rattle.value_writing.proofs.sort.+copies.Given as goal

abbrev pub invariant-sorted_items-loop-item : goal.invariant-sorted_items-loop-item
invariant-sorted_items-loop-item l = record {
  copied : map view l.copies ≡ map (λ v. sorted (view v)) (take l.item-index l.items);
  equal : some_has_equal_keys (view_all (drop l.item-index l.items)) ≡ some_has_equal_keys (view_all l.items);
}

abbrev pub invariant-by_key-loop-pair : goal.invariant-by_key-loop-pair
invariant-by_key-loop-pair l = record {
  put : sorted_onto (view_pairs l.map.entries) (view_pairs (drop l.pair-index l.pairs)) ≡ sorted_onto no_entry (view_pairs l.pairs);
  equal : equal_onto (view_pairs l.map.entries) (view_pairs (drop l.pair-index l.pairs)) ≡ have_equal_keys (view_pairs l.pairs);
}
