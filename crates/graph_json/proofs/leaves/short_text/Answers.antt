use Rattle.std.proofs.Common.{arith}
use Rattle.graph_json.proofs.Sizes.{some_text}
use Rattle.graph_json.proofs.leaves.short_text.Goals as goal

pub returns-in_ok-of : goal.returns-in_ok-of
returns-in_ok-of c = some_text c.args.text.now c.in_ok-of.field-0 c.utf8.text (omega arith) c.in_ok-of.ensures
