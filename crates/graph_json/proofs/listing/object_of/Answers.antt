use Rattle.std.proofs.Common.{arith}
use Rattle.graph_json.specs.View.{view as json_view}
use Rattle.graph_json.proofs.Objects.{object_there, object_other}
use Rattle.graph_json.proofs.listing.object_of.Goals as goal

pub returns-then-len-count : goal.returns-then-len-count
returns-then-len-count c = object_there c.in_ok-found.found.entries.now (json_view c.args.json.now) c.len.result c.in_ok-found.ensures c.len.ensures c.args.count (omega arith)

pub returns-else-len-count : goal.returns-else-len-count
returns-else-len-count c = object_other c.in_ok-found.found.entries.now (json_view c.args.json.now) c.len.result c.in_ok-found.ensures c.len.ensures c.args.count (λ e. absurd (omega (arith, e)))
