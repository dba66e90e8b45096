use Rattle.std.proofs.Common.{sym, ◌∙◌}
use Rattle.graph_arena.proofs.Lone.{lone_form}
use Rattle.graph_arena.proofs.graph.Graph.renumbered.Goals as goal

pub returns-then-len-eq0 : goal.returns-then-len-eq0
returns-then-len-eq0 c = lone_form c.args.self c.len.ensures.sound (sym c.len.ensures.len ∙ c.if-len-eq0.true)
