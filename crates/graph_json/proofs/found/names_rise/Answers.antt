use Rattle.std.proofs.Common.{arith}
use Rattle.graph_json.proofs.Halving.{rise_by_neighbours}
use Rattle.graph_json.proofs.found.names_rise.Goals as goal

pub returns : goal.returns
returns c = λ yes. rise_by_neighbours c.args.entries.now c.loop-at.at (omega arith) c.loop-at.invariant.1
