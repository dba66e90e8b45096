use Rattle.graph_json.specs.View.{view as json_view}
use Rattle.value_parts.specs.Shapes.{shape_seen}
use Rattle.graph_json.proofs.ContentWalking.{content_is, content_is_not}
use Rattle.graph_json.proofs.content_read.content_with.Goals as goal

pub returns-in_ok-optional-2 : goal.returns-in_ok-optional-2
returns-in_ok-optional-2 c =
    rw c.in_ok-optional-2.ensures (content_is c.args.schema.now (shape_seen c.args.fields) c.in-Some.found.entries.now (json_view c.args.json.now) c.len.result c.len-2.result c.len-3.result c.is_sum.result c.in_ok-required.field-0 c.in-Some-2.required c.in_ok-optional.field-0 c.in-Some-3.optional
    c.in-Some.ensures c.in-Some-2.is c.in_ok-required.ensures c.in-Some-3.is c.in_ok-optional.ensures c.len.ensures c.len-2.ensures c.len-3.ensures c.is_sum.ensures c.if-is_sum.true)

pub returns-else-is_sum : goal.returns-else-is_sum
returns-else-is_sum c =
    content_is_not c.args.schema.now (shape_seen c.args.fields) c.in-Some.found.entries.now (json_view c.args.json.now) c.len.result c.len-2.result c.len-3.result c.is_sum.result c.in_ok-required.field-0 c.in-Some-2.required c.in_ok-optional.field-0 c.in-Some-3.optional
    c.in-Some.ensures c.in-Some-2.is c.in_ok-required.ensures c.in-Some-3.is c.in_ok-optional.ensures c.len.ensures c.len-2.ensures c.len-3.ensures c.is_sum.ensures c.if-is_sum.false
