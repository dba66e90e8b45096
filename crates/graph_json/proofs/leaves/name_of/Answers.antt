use Rattle.std.proofs.Common.{arith}
use Rattle.graph_json.specs.View.{view as json_view}
use Rattle.graph_json.proofs.Sizes.{name_there, name_not_alone}
use Rattle.graph_json.proofs.leaves.name_of.Goals as goal

pub returns-in_ok-named : goal.returns-in_ok-named
returns-in_ok-named c =
    name_there c.in_ok-found.found.entries.now (json_view c.args.json.now) (json_view c.in_ok-named.field-0.now) c.len.result c.name_from.result c.in_ok-found.ensures c.len.ensures (omega arith) c.in_ok-named.ensures c.name_from.ensures

pub returns-else-len-eq1 : goal.returns-else-len-eq1
returns-else-len-eq1 c = name_not_alone c.in_ok-found.found.entries.now (json_view c.args.json.now) c.len.result c.in_ok-found.ensures c.len.ensures (λ e. absurd (omega (arith, e)))
