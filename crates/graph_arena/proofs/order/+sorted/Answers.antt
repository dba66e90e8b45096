use Rattle.std.proofs.Common.{◌≡◌, List, ◌∷◌, true, false, ◌↔◌, sym, ◌∙◌, rules}
use Rattle.ice_encoding.specs.Order.{KeysRise, IsOrdered}
use Rattle.ice_encoding.specs.Tree.{InEach, InPairs}
use Rattle.graph_arena.specs.declared.value.Value.{Value}
use Rattle.graph_arena.specs.View.{view, view_all, view_pairs}
use Rattle.graph_arena.proofs.Stepping.{each_fails, each_holds, each_ends}
use Rattle.graph_arena.proofs.ByteTrees.{bytes_rise}
use Rattle.graph_arena.proofs.Shapes.{view_bytes}
use Rattle.graph_arena.proofs.Rising.{rising_dict, falling_dict}
use Rattle.graph_arena.proofs.order.+sorted.Goals as goal
use Rattle.graph_arena.proofs.order.+sorted.Goals.{have_sorted_parts-then-not-is_sorted-via-then-not-is_sorted, have_sorted_parts-then-not-is_sorted-via-else-not-is_sorted+then-not-is_sorted-2}

abbrev Each : List Value → Type 0
Each items = InEach KeysRise (view_all items)

abbrev Sorted : Value → Type 0
Sorted item = IsOrdered (view item)

abbrev EachPair : List (Value × Value) → Type 0
EachPair pairs = InPairs KeysRise (view_pairs pairs)

abbrev BothSorted : Value × Value → Type 0
BothSorted pair = IsOrdered (view pair.0) × IsOrdered (view pair.1)

item_first : (item : Value) (items : List Value) → Each (item ∷ items) ↔ (Sorted item × Each items)
item_first item items = (λ h. h, λ h. h)

pair_first : (pair : Value × Value) (pairs : List (Value × Value)) → EachPair (pair ∷ pairs) ↔ (BothSorted pair × EachPair pairs)
pair_first pair pairs = (λ h. ((h.0, h.1), h.2), λ h. (h.0.0, h.0.1, h.1))

pub is_sorted-returns-then-is_rising : goal.is_sorted-returns-then-is_rising
is_sorted-returns-then-is_rising t c =
    rising_dict c.args.value.now c.in-Pairs.pairs c.as_slice-pairs.result.now c.in-Pairs.is c.as_slice-pairs.ensures c.is_rising.result c.have_sorted_parts.result c.is_rising.ensures c.have_sorted_parts.ensures c.if-is_rising.true

pub is_sorted-returns-else-is_rising : goal.is_sorted-returns-else-is_rising
is_sorted-returns-else-is_rising t c =
    falling_dict c.args.value.now c.in-Pairs.pairs c.as_slice-pairs.result.now c.in-Pairs.is c.as_slice-pairs.ensures c.is_rising.result c.is_rising.ensures c.if-is_rising.false

pub is_sorted-returns-in-Bool-7 : goal.is_sorted-returns-in-Bool-7
is_sorted-returns-in-Bool-7 t c = search (rules, view_bytes, bytes_rise)

pub are_sorted-returns-then-not-is_sorted : goal.are_sorted-returns-then-not-is_sorted
are_sorted-returns-then-not-is_sorted t c =
    each_fails Each Sorted item_first c.args.items.now c.loop-item.item-index c.item-item.result c.loop-item-test.true c.item-item.is c.loop-item.invariant
    (λ h. let clash : false ≡ true = sym c.if-not-is_sorted.true ∙ c.is_sorted.ensures.1 h in cc)

pub are_sorted-loop-item-preserved : goal.are_sorted-loop-item-preserved
are_sorted-loop-item-preserved t c =
    each_holds Each Sorted item_first c.args.items.now c.loop-item.item-index c.item-item.result c.loop-item-test.true c.item-item.is c.loop-item.invariant
    (c.is_sorted.ensures.0 c.if-not-is_sorted.false)

pub are_sorted-returns : goal.are_sorted-returns
are_sorted-returns t c = each_ends Each tt c.args.items.now c.loop-item.item-index c.loop-item-test.false c.loop-item.invariant

pub have_sorted_parts-returns-then-not-is_sorted :
    goal.have_sorted_parts-returns-then-not-is_sorted
have_sorted_parts-returns-then-not-is_sorted t c =
    let fails : BothSorted c.pair-item.result → ⊥ = λ h. elim c.then-not-is_sorted.branch [
      | have_sorted_parts-then-not-is_sorted-via-then-not-is_sorted w ↦ let clash : false ≡ true = sym w.if-not-is_sorted.true ∙ c.is_sorted.ensures.1 h.0 in cc
      | have_sorted_parts-then-not-is_sorted-via-else-not-is_sorted+then-not-is_sorted-2 w ↦ let clash : false ≡ true = sym w.if-not-is_sorted-2.true ∙ w.is_sorted-else-not-is_sorted.ensures.1 h.1 in cc
    ] in
    each_fails EachPair BothSorted pair_first c.args.pairs.now c.loop-pair.pair-index c.pair-item.result c.loop-pair-test.true c.pair-item.is c.loop-pair.invariant fails

pub have_sorted_parts-loop-pair-preserved : goal.have_sorted_parts-loop-pair-preserved
have_sorted_parts-loop-pair-preserved t c =
    each_holds EachPair BothSorted pair_first c.args.pairs.now c.loop-pair.pair-index c.pair-item.result c.loop-pair-test.true c.pair-item.is c.loop-pair.invariant
    (c.is_sorted.ensures.0 c.if-not-is_sorted.false, c.is_sorted-else-not-is_sorted.ensures.0 c.if-not-is_sorted-2.false)

pub have_sorted_parts-returns : goal.have_sorted_parts-returns
have_sorted_parts-returns t c = each_ends EachPair tt c.args.pairs.now c.loop-pair.pair-index c.loop-pair-test.false c.loop-pair.invariant
