use Rattle.std.proofs.Common.{◌≡◌, ℕ, ◌≤◌, List, ◌∷◌, arith, max, refl, rules, sym, ap, subst, ◌∙◌}
use Rattle.std.specs.Ordering.{ordering_then}
use Rattle.std.specs.declared.cmp.Ordering.{Ordering}
use Rattle.ice_encoding.specs.Order.{tree_cmp, trees_cmp, entries_cmp}
use denote.Param.Weighed.{most, at_most}
use Rattle.graph_arena.proofs.value.Value.TheLaws.{the_size}
use Rattle.graph_arena.specs.declared.value.Value.{Value}
use Rattle.graph_arena.specs.declared.value.Value.TheShapes.{weighed-Value-Pairs-0-at-2}
use Rattle.graph_arena.proofs.ByteTrees.{bytes_beside_bytes, seq_beside_bytes}
use Rattle.graph_arena.proofs.Comparisons.{each_ends, pairs_end, dicts_compared}
use Rattle.graph_arena.specs.View.{view, view_all, view_pairs}
use Rattle.graph_arena.proofs.Stepping.{then_first, then_then, tells, alike, other_ends}
use Rattle.graph_arena.proofs.compare.+order.Goals as goal

abbrev items_cmp : List Value → List Value → Ordering
items_cmp a b = trees_cmp (view_all a) (view_all b)

abbrev item_cmp : Value → Value → Ordering
item_cmp a b = tree_cmp (view a) (view b)

abbrev pairs_cmp : List (Value × Value) → List (Value × Value) → Ordering
pairs_cmp a b = entries_cmp (view_pairs a) (view_pairs b)

abbrev pair_cmp : Value × Value → Value × Value → Ordering
pair_cmp p q = ordering_then (item_cmp p.0 q.0) (item_cmp p.1 q.1)

pair_parts : (p : Value × Value) (ps : List (Value × Value)) (q : Value × Value) (qs : List (Value × Value)) → pairs_cmp (p ∷ ps) (q ∷ qs) ≡ ordering_then (pair_cmp p q) (pairs_cmp ps qs)
pair_parts p ps q qs = then_then (item_cmp p.0 q.0) (item_cmp p.1 q.1) (pairs_cmp ps qs)

pub compare-returns-in-Pairs-Pairs : goal.compare-returns-in-Pairs-Pairs
compare-returns-in-Pairs-Pairs t c =
    dicts_compared c.args.a.now c.args.b.now c.in-Pairs-Pairs.a c.in-Pairs-Pairs.b c.as_slice-in-Pairs-Pairs.result.now c.as_slice-in-Pairs-Pairs-2.result.now c.compare_pairs.result
    c.in-Pairs-Pairs.is-0 c.in-Pairs-Pairs.is-1 c.as_slice-in-Pairs-Pairs.ensures c.as_slice-in-Pairs-Pairs-2.ensures c.compare_pairs.ensures

pub compare-returns-in-Bytes-Bytes : goal.compare-returns-in-Bytes-Bytes
compare-returns-in-Bytes-Bytes t c =
    bytes_beside_bytes c.args.a.now c.args.b.now c.in-Bytes-Bytes.a c.in-Bytes-Bytes.b c.as_slice-in-Bytes-Bytes.result.now c.as_slice-in-Bytes-Bytes-2.result.now c.cmp-in-Bytes-Bytes.result
    c.in-Bytes-Bytes.is-0 c.in-Bytes-Bytes.is-1 c.as_slice-in-Bytes-Bytes.ensures c.as_slice-in-Bytes-Bytes-2.ensures c.cmp-in-Bytes-Bytes.ensures

pub compare-returns-in-Seq-Bytes : goal.compare-returns-in-Seq-Bytes
compare-returns-in-Seq-Bytes t c =
    seq_beside_bytes c.args.a.now c.args.b.now c.in-Seq-Bytes.a c.as_slice-in-Seq-Bytes-2.result.now c.in-Seq-Bytes.b c.as_slice-in-Seq-Bytes.result.now c.reverse.result c.compare_bytes.result
    c.in-Seq-Bytes.is-0 c.in-Seq-Bytes.is-1 c.as_slice-in-Seq-Bytes-2.ensures c.as_slice-in-Seq-Bytes.ensures c.reverse.ensures c.compare_bytes.ensures

pub compare_each-compare-requires : goal.compare_each-compare-requires
compare_each-compare-requires t c =
    let deep : the_size c.index-a-at.result ≤ most the_size c.args.a.now =
    subst (λ (v : Value). the_size v ≤ most the_size c.args.a.now) (sym c.index-a-at.is) (at_most the_size c.args.a.now c.loop-at.at c.index-a-at.result c.loop-at-test.true) in
    let found = c.in-Some.ensures.lookup in
    let other : the_size c.in-Some.other.now ≤ most the_size c.args.b.now =
    subst (λ (v : Value). the_size v ≤ most the_size c.args.b.now) (sym found.1) (at_most the_size c.args.b.now c.loop-at.at c.in-Some.other.now found.3.0) in
    (search (rules, deep, other), tt)

pub compare_each-returns : goal.compare_each-returns
compare_each-returns t c =
    c.cmp.ensures ∙ sym (c.loop-at.invariant.rest ∙ each_ends c.args.a.now c.args.b.now c.loop-at.at c.loop-at.auto.at-end c.loop-at.invariant.within c.loop-at-test.false)

-- a pair is as deep as the deeper of its two
abbrev pair_size : Value × Value → ℕ
pair_size = weighed-Value-Pairs-0-at-2.weight Value the_size

abbrev deep_size : Value × Value → ℕ
deep_size p = max (the_size p.0) (max (the_size p.1) 0)

pub compare_pairs-compare-requires : goal.compare_pairs-compare-requires
compare_pairs-compare-requires t c =
    let deep : deep_size c.index-a-at.result ≤ most pair_size c.args.a.now =
    subst (λ (p : Value × Value). pair_size p ≤ most pair_size c.args.a.now) (sym c.index-a-at.is) (at_most pair_size c.args.a.now c.loop-at.at c.index-a-at.result c.loop-at-test.true) in
    let found = c.in-Some.ensures.lookup in
    let other : deep_size c.in-Some.other.now ≤ most pair_size c.args.b.now =
    subst (λ (p : Value × Value). pair_size p ≤ most pair_size c.args.b.now) (sym found.1) (at_most pair_size c.args.b.now c.loop-at.at c.in-Some.other.now found.3.0) in
    (search (rules, deep, other), tt)

pub compare_pairs-compare-requires-in-loop-at : goal.compare_pairs-compare-requires-in-loop-at
compare_pairs-compare-requires-in-loop-at t c =
    let deep : deep_size c.index-a-at.result ≤ most pair_size c.args.a.now =
    subst (λ (p : Value × Value). pair_size p ≤ most pair_size c.args.a.now) (sym c.index-a-at.is) (at_most pair_size c.args.a.now c.loop-at.at c.index-a-at.result c.loop-at-test.true) in
    let found = c.in-Some.ensures.lookup in
    let other : deep_size c.in-Some.other.now ≤ most pair_size c.args.b.now =
    subst (λ (p : Value × Value). pair_size p ≤ most pair_size c.args.b.now) (sym found.1) (at_most pair_size c.args.b.now c.loop-at.at c.in-Some.other.now found.3.0) in
    (search (rules, deep, other), tt)

pub compare_pairs-returns : goal.compare_pairs-returns
compare_pairs-returns t c =
    c.cmp.ensures ∙ sym (c.loop-at.invariant.rest ∙ pairs_end c.args.a.now c.args.b.now c.loop-at.at c.loop-at.auto.at-end c.loop-at.invariant.within c.loop-at-test.false)

pub compare_each-returns-in_default : goal.compare_each-returns-in_default
compare_each-returns-in_default t c =
    other_ends items_cmp (λ x xs. refl) c.args.a.now c.args.b.now c.loop-at.at c.index-a-at.result c.loop-at-test.true c.index-a-at.is (search rules) c.loop-at.invariant.rest

pub compare_each-returns-in_default-compare : goal.compare_each-returns-in_default-compare
compare_each-returns-in_default-compare t c =
    let found = c.in-Some.ensures.lookup in
    tells items_cmp item_cmp (λ x xs y ys. refl) c.args.a.now c.args.b.now c.loop-at.at c.index-a-at.result c.in-Some.other.now c.loop-at-test.true c.index-a-at.is found.3.0 found.1 c.loop-at.invariant.rest
    c.compare.result c.compare.ensures c.in_default-compare.not-Equal

pub compare_each-loop-at-preserved : goal.compare_each-loop-at-preserved
compare_each-loop-at-preserved t c =
    let found = c.in-Some.ensures.lookup in
    record {
      within = omega (arith, found.3.0);
      rest =
          alike items_cmp item_cmp (λ x xs y ys. refl) c.args.a.now c.args.b.now c.loop-at.at c.index-a-at.result c.in-Some.other.now c.loop-at-test.true c.index-a-at.is found.3.0 found.1 c.loop-at.invariant.rest
          c.in-Equal.ensures;
    }

pub compare_pairs-returns-in_default : goal.compare_pairs-returns-in_default
compare_pairs-returns-in_default t c =
    other_ends pairs_cmp (λ x xs. refl) c.args.a.now c.args.b.now c.loop-at.at c.index-a-at.result c.loop-at-test.true c.index-a-at.is (search rules) c.loop-at.invariant.rest

pub compare_pairs-returns-in_default-compare : goal.compare_pairs-returns-in_default-compare
compare_pairs-returns-in_default-compare t c =
    let found = c.in-Some.ensures.lookup in
    let values = item_cmp c.index-a-at.result.1 c.in-Some.other.now.1 in
    tells pairs_cmp pair_cmp pair_parts c.args.a.now c.args.b.now c.loop-at.at c.index-a-at.result c.in-Some.other.now c.loop-at-test.true c.index-a-at.is found.3.0 found.1 c.loop-at.invariant.rest
    c.compare.result (then_first c.compare.result values c.in_default-compare.not-Equal ∙ ap (λ (o : Ordering). ordering_then o values) c.compare.ensures) c.in_default-compare.not-Equal

pub compare_pairs-returns-in_default-compare-2 : goal.compare_pairs-returns-in_default-compare-2
compare_pairs-returns-in_default-compare-2 t c =
    let found = c.in-Some.ensures.lookup in
    let values = item_cmp c.index-a-at.result.1 c.in-Some.other.now.1 in
    tells pairs_cmp pair_cmp pair_parts c.args.a.now c.args.b.now c.loop-at.at c.index-a-at.result c.in-Some.other.now c.loop-at-test.true c.index-a-at.is found.3.0 found.1 c.loop-at.invariant.rest
    c.compare-in-loop-at.result (c.compare-in-loop-at.ensures ∙ ap (λ (o : Ordering). ordering_then o values) c.in-Equal.ensures) c.in_default-compare-2.not-Equal

pub compare_pairs-loop-at-preserved : goal.compare_pairs-loop-at-preserved
compare_pairs-loop-at-preserved t c =
    let found = c.in-Some.ensures.lookup in
    let values = item_cmp c.index-a-at.result.1 c.in-Some.other.now.1 in
    record {
      within = omega (arith, found.3.0);
      rest =
          alike pairs_cmp pair_cmp pair_parts c.args.a.now c.args.b.now c.loop-at.at c.index-a-at.result c.in-Some.other.now c.loop-at-test.true c.index-a-at.is found.3.0 found.1 c.loop-at.invariant.rest
          (c.in-Equal-compare.ensures ∙ ap (λ (o : Ordering). ordering_then o values) c.in-Equal.ensures);
    }
