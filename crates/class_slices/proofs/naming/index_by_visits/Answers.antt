use Rattle.std.proofs.Common.{ℕ, ◌∙◌, List, length, sym, ap, subst, arith}
use Rattle.graph_arena.specs.Arena.{AreBelow}
use Rattle.graph_arena.specs.Renumbering.{IsIndex}
use Rattle.graph_arena.proofs.Closed.{order-is}
use Rattle.graph_arena.proofs.Formed.{order-few}
use Rattle.class_slices.proofs.naming.index_by_visits.Goals as goal

pub index_of-requires-clause-few : goal.index_of-requires-clause-few
index_of-requires-clause-few c =
    let is = c.as_slice.ensures ∙ c.in_ok-order.ensures in
    omega (arith, ap length is, order-few c.args.graph.now c.len-count.ensures.sound, c.len-count.ensures.len)

pub index_of-requires-clause-in_range : goal.index_of-requires-clause-in_range
index_of-requires-clause-in_range c =
    let g = c.args.graph.now in
    subst (λ (n : ℕ). AreBelow n c.as_slice.result.now) (sym c.len-count.ensures.len)
    (subst (AreBelow (length g.instances)) (sym (c.as_slice.ensures ∙ c.in_ok-order.ensures)) (order-is g c.len-count.ensures.sound).below)

pub returns-clause-index : goal.returns-clause-index
returns-clause-index c =
    let g = c.args.graph.now in
    subst (λ (l : List ℕ). IsIndex (length g.instances) l c.in_ok-index.index.items) (c.as_slice.ensures ∙ c.in_ok-order.ensures)
    (subst (λ (n : ℕ). IsIndex n c.as_slice.result.now c.in_ok-index.index.items) c.len-count.ensures.len c.in_ok-index.ensures)
