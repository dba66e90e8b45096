use Rattle.graph_arena.proofs.Fitting.{sound-at}
use Rattle.graph_arena.proofs.graph.Graph.instance.Goals as goal

pub returns-clause-fits : goal.returns-clause-fits
returns-clause-fits c = sound-at _ c.args.self.now c.args.at c.self.view_is c.self.invariant c.requires
