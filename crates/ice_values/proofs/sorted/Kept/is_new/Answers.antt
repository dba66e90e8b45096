use Rattle.std.proofs.Common.{not, ap, sym, ◌∙◌, subst, List}
use Rattle.ice_encoding.specs.Order.{AreBelow, has_key}
use Rattle.graph_arena.specs.declared.value.Value.{Value}
use Rattle.graph_arena.specs.View.{view, view_pairs}
use Rattle.ice_values.proofs.Keys.{is_found, above_is_new, not-true}
use Rattle.ice_values.proofs.sorted.Kept.is_new.Goals as goal

pub returns-then-is_above-clause-new : goal.returns-then-is_above-clause-new
returns-then-is_above-clause-new c =
    let below : AreBelow (view_pairs c.in-Rising.pairs) (view c.args.key.now) = subst (λ (l : List (Value × Value)). AreBelow (view_pairs l) (view c.args.key.now)) c.as_slice.ensures (c.is_above.ensures.0 c.if-is_above.true) in
    rw c.in-Rising.is (sym (ap not (above_is_new c.args.key.now c.args.key.now c.in-Rising.pairs below)))

pub returns-in_ok-map-in-Rising-clause-new : goal.returns-in_ok-map-in-Rising-clause-new
returns-in_ok-map-in-Rising-clause-new c =
    rw (c.in-Rising.is, c.contains_key-is_new.ensures) (ap not (is_found c.args.key.now c.in_ok-map-in-Rising.map.entries) ∙ ap (λ es. not (has_key (view c.args.key.now) es)) (c.in_ok-map-in-Rising.ensures ∙ ap view_pairs c.replace.ensures.value))

pub returns-in_ok-map-in-Rising-clause-place : goal.returns-in_ok-map-in-Rising-clause-place
returns-in_ok-map-in-Rising-clause-place c = λ new. rw c.replace-in-Rising.ensures.after (sym (c.contains_key-is_new.ensures ∙ is_found c.args.key.now c.in_ok-map-in-Rising.map.entries) ∙ not-true c.contains_key-is_new.result new)

pub returns-in-Scattered-clause-new : goal.returns-in-Scattered-clause-new
returns-in-Scattered-clause-new c = rw (c.in-Scattered.is, c.contains_key.ensures) (ap not (is_found c.args.key.now c.in-Scattered.map.entries))

pub returns-in-Scattered-clause-place : goal.returns-in-Scattered-clause-place
returns-in-Scattered-clause-place c = λ new. sym (c.contains_key.ensures ∙ is_found c.args.key.now c.in-Scattered.map.entries) ∙ not-true c.contains_key.result new
