use Rattle.std.proofs.Common.{refl, ap, arith, ◌∙◌}
use Rattle.graph_arena.specs.View.{view_pairs}
use Rattle.value_writing.proofs.Sorting.{bytes_copied}
use Rattle.value_writing.proofs.Sorting.{equal_is, items_copied, pairs_copied}
use Rattle.value_writing.proofs.sort.+copies.Goals as goal

pub by_key-loop-pair-init : goal.by_key-loop-pair-init
by_key-loop-pair-init t c = record {
  put = rw c.new-map.ensures.empty refl;
  equal = rw c.new-map.ensures.empty (equal_is (view_pairs c.args.pairs.now));
}

pub sorted_copy-returns-in_ok-in_order-in-Some-3 :
    goal.sorted_copy-returns-in_ok-in_order-in-Some-3
sorted_copy-returns-in_ok-in_order-in-Some-3 t c =
    pairs_copied c.args.value.now c.in-Pairs.pairs c.as_slice-in-Pairs.result.now c.in_ok-in_order-in-Some-3.field-0 c.in_ok-map-in-Pairs.field-0 c.in-Some-3.map c.in-Pairs.is c.as_slice-in-Pairs.ensures c.in-Some-3.is c.in_ok-map-in-Pairs.ensures (ap view_pairs c.in_ok-in_order-in-Some-3.ensures)

pub sorted_items-returns : goal.sorted_items-returns
sorted_items-returns t c =
    items_copied c.args.items.now c.loop-item.copies c.loop-item.item-index (omega arith) c.loop-item.invariant.copied c.loop-item.invariant.equal

pub sorted_copy-returns-in_ok-from_slice-in-Bytes :
    goal.sorted_copy-returns-in_ok-from_slice-in-Bytes
sorted_copy-returns-in_ok-from_slice-in-Bytes t c =
    bytes_copied c.args.value.now c.in-Bytes.bytes c.from_vec.result c.in-Bytes.is (c.from_vec.ensures ∙ (c.in_ok-from_slice-in-Bytes.ensures.items ∙ c.as_slice.ensures))
