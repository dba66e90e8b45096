use Rattle.std.proofs.Common.{◌↔◌, drop}
use Rattle.ice_encoding.specs.Order.{KeysRise}
use Rattle.ice_encoding.specs.Tree.{InEach, InPairs}
use Rattle.graph_arena.specs.View.{view_all, view_pairs}
use Rattle.graph_arena.proofs.order.+sorted.Given as goal

abbrev pub invariant-are_sorted-loop-item : goal.invariant-are_sorted-loop-item
invariant-are_sorted-loop-item l = InEach KeysRise (view_all l.items) ↔ InEach KeysRise (view_all (drop l.item-index l.items))

abbrev pub invariant-have_sorted_parts-loop-pair : goal.invariant-have_sorted_parts-loop-pair
invariant-have_sorted_parts-loop-pair l = InPairs KeysRise (view_pairs l.pairs) ↔ InPairs KeysRise (view_pairs (drop l.pair-index l.pairs))
