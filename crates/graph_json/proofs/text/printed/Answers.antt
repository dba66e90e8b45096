use Rattle.std.proofs.Common.{◌≡◌, [], ◌++◌, rules}
use Rattle.std.specs.Prelude.{string_bytes}
use Rattle.value_parts.specs.Shapes.{shape_seen}
use Rattle.json.specs.Print.{print}
use Rattle.graph_json.specs.Canonical.{graph_noted}
use Rattle.graph_json.proofs.Printing.{text_printed}
use Rattle.graph_json.proofs.text.printed.Goals as goal

pub returns : goal.returns
returns c =
    let start = c.new-out.result in
    let new = c.write_graph.new.out in
    let first : start.before ≡ [] = search rules in
    let none : start.tokens ≡ [] = search rules in
    let is : string_bytes c.in-Ok.text ≡ new.before ++ print new.tokens = search rules in
    text_printed (graph_noted c.args.schema.now (shape_seen c.args.fields) c.args.graph.now) start new first none c.in_ok-write_graph.ensures
    (string_bytes c.in-Ok.text) is c.into_inner.ensures.reads_back c.into_inner.ensures.utf8
