use Rattle.std.proofs.Common.{length}
use Rattle.graph_arena.proofs.Fitting.{full-is}
use Rattle.graph_arena.proofs.graph.Graph.is_full.Goals as goal

pub returns : goal.returns
returns c = full-is c.len.result (length c.args.self.now.instances) c.len.ensures.len
