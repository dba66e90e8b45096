use Rattle.std.proofs.Common.{arith}
use Rattle.graph_json.specs.View.{view as json_view}
use Rattle.graph_json.proofs.Objects.{known_there, unknown_there, no_slice}
use Rattle.graph_json.proofs.slices.slice_of.Goals as goal

pub returns-then-count-eq2 : goal.returns-then-count-eq2
returns-then-count-eq2 c = known_there c.args.schema.now c.in-Some.found.entries.now (json_view c.args.json.now) c.len-count.result c.known_in.result c.in-Some.ensures c.len-count.ensures (omega arith) c.known_in.ensures

pub returns-then-count-eq4 : goal.returns-then-count-eq4
returns-then-count-eq4 c = unknown_there c.args.schema.now c.in-Some.found.entries.now (json_view c.args.json.now) c.len-count.result c.unknown_in.result c.in-Some.ensures c.len-count.ensures (omega arith) c.unknown_in.ensures

pub returns-else-count-eq4 : goal.returns-else-count-eq4
returns-else-count-eq4 c = no_slice c.args.schema.now c.in-Some.found.entries.now (json_view c.args.json.now) c.len-count.result c.in-Some.ensures c.len-count.ensures (λ e. absurd (omega (arith, e))) (λ e. absurd (omega (arith, e)))
