use Rattle.std.proofs.Common.{arith}
use Rattle.graph_json.specs.View.{view as json_view}
use Rattle.graph_json.proofs.Sizes.{no_pair}
use Rattle.graph_json.proofs.read.pair_of.Goals as goal

pub returns-else-len-eq2 : goal.returns-else-len-eq2
returns-else-len-eq2 c = no_pair c.in_ok-items.items.now.items (json_view c.args.json.now) c.in_ok-items.ensures (λ e. absurd (omega (arith, e)))
