use Rattle.std.proofs.Common.{arith, ap, ◌∙◌, map, subst, sym}
use Rattle.graph_arena.specs.Arena.{IsSound}
use Rattle.graph_arena.specs.Seen.{view_content, view_instance, view_slices}
use Rattle.graph_arena.proofs.Fitting.{count-small, reserved-keeps}
use Rattle.graph_arena.proofs.graph.Graph.reserve.Goals as goal

pub overflow_cast-at : goal.overflow_cast-at
overflow_cast-at c = omega (arith, count-small view_instance c.self.inside.instances.items c.len-at.result (c.len-at.ensures ∙ c.self.inside.instances.ok.0) c.self.invariant.few)

pub invariant_of-self-2 : goal.invariant_of-self-2
invariant_of-self-2 c =
    subst (λ l. IsSound (record { roots = view_content c.self.inside.roots; instances = map view_instance l })) (sym c.in_ok-push.ensures.items)
    (reserved-keeps view_instance (view_content c.self.inside.roots) c.self.inside.instances.items (record { slices = c.new-slices.result }) c.args.self.now c.self.view_is
    (ap view_slices c.new-slices.ensures) c.self.invariant c.requires)
