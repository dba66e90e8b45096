use Rattle.std.proofs.Common.{arith}
use Rattle.graph_json.specs.View.{view as json_view}
use Rattle.graph_json.proofs.Sound.{many_listed}
use Rattle.graph_json.proofs.text.lists_too_many.Goals as goal

pub returns-in-Some : goal.returns-in-Some
returns-in-Some c = many_listed c.in-Some.items.now.items (json_view c.args.json.now) c.len.result c.in-Some.ensures (omega (arith, c.len.ensures))
