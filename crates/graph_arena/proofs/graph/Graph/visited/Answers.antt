use Rattle.std.proofs.Common.{◌≤◌, ◌∙◌, arith, length, List, subst, sym, ℕ}
use Rattle.ice_encoding.specs.Visiting.{order}
use Rattle.graph_arena.specs.Arena.{AreBelow}
use Rattle.graph_arena.specs.Renumbering.{IsIndex}
use Rattle.graph_arena.proofs.Closed.{order-is}
use Rattle.graph_arena.proofs.Formed.{order-few}
use Rattle.graph_arena.proofs.graph.Graph.visited.Goals as goal

pub index_of-requires-clause-few : goal.index_of-requires-clause-few
index_of-requires-clause-few c =
    subst (λ (ns : List ℕ). length ns ≤ c.len-count.result) (sym (c.as_slice.ensures ∙ c.in_ok-visits.ensures)) (omega (arith, order-few c.args.self.now c.len-count.ensures.sound, c.len-count.ensures.len))

pub index_of-requires-clause-in_range : goal.index_of-requires-clause-in_range
index_of-requires-clause-in_range c =
    subst (λ (ns : List ℕ). AreBelow c.len-count.result ns) (sym (c.as_slice.ensures ∙ c.in_ok-visits.ensures))
    (subst (λ (n : ℕ). AreBelow n (order c.args.self.now)) (sym c.len-count.ensures.len) (order-is c.args.self.now c.len-count.ensures.sound).below)

pub returns-clause-index : goal.returns-clause-index
returns-clause-index c =
    subst (λ (n : ℕ). IsIndex n (order c.args.self.now) c.in_ok-index.index.items) c.len-count.ensures.len
    (subst (λ (ns : List ℕ). IsIndex c.len-count.result ns c.in_ok-index.index.items) (c.as_slice.ensures ∙ c.in_ok-visits.ensures) c.in_ok-index.ensures)
