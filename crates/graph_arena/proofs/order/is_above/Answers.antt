use Rattle.std.proofs.Common.{◌-◌, length, subst, ap, sym, ◌∙◌, IsTrue, ◌↔◌, Bool}
use Rattle.std.specs.Ordering.{is_lt}
use Rattle.ice_encoding.specs.Order.{AreBelow}
use Rattle.graph_arena.specs.View.{view, view_pairs}
use Rattle.graph_arena.proofs.RisingPairs.{above_last, some_counted}
use Rattle.graph_arena.proofs.order.is_above.Goals as goal

pub returns-in-Some : goal.returns-in-Some
returns-in-Some c =
    let ps = c.args.pairs.now in
    let at = sym c.in-Some.ensures.value in
    let test = ap is_lt c.cmp.ensures in
    subst (λ (b : Bool). IsTrue b ↔ AreBelow (view_pairs ps) (view c.args.key.now)) (sym (c.is_lt.ensures ∙ test))
    (above_last ps (length ps - 1) c.in-Some.last.now (view c.args.key.now) (some_counted ps c.in-Some.last.now at) at c.requires)
