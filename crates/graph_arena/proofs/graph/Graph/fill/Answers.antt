use Rattle.graph_arena.specs.Seen.{view_content, view_instance}
use Rattle.graph_arena.proofs.Fitting.{filled-keeps, filled-view}
use Rattle.graph_arena.proofs.graph.Graph.fill.Goals as goal

pub invariant_of-self : goal.invariant_of-self
invariant_of-self c =
    filled-keeps view_instance (view_content c.self.inside.roots) c.self.inside.instances.items c.args.at c.args.instance c.args.self.now c.self.view_is c.self.invariant c.requires.fits

pub returns : goal.returns
returns c = filled-view view_instance (view_content c.self.inside.roots) c.self.inside.instances.items c.args.at c.args.instance c.args.self.now c.self.view_is
