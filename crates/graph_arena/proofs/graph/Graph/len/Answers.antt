use Rattle.std.proofs.Common.{arith, ◌∙◌}
use Rattle.graph_arena.specs.Seen.{view_instance}
use Rattle.graph_arena.proofs.Fitting.{count-small}
use Rattle.graph_arena.proofs.graph.Graph.len.Goals as goal

pub overflow_cast-result : goal.overflow_cast-result
overflow_cast-result c = omega (arith, count-small view_instance c.self.inside.instances.items c.len.result (c.len.ensures ∙ c.self.inside.instances.ok.0) c.self.invariant.few)
