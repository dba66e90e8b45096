use Rattle.std.proofs.Common.{◌≡◌, [], ◌++◌, rules}
use Rattle.graph_arena.specs.Seen.{view_content}
use Rattle.value_parts.specs.Shapes.{shape_seen}
use Rattle.graph_json.specs.Contents.{content_noted}
use Rattle.json.specs.Print.{print}
use Rattle.graph_json.proofs.Printing.{piece_printed}
use Rattle.graph_json.proofs.pieces.push_content.Goals as goal

pub returns : goal.returns
returns c =
    let start = c.new-out.result in
    let new = c.write_content.new.out in
    let first : start.before ≡ c.args.text.items = search rules in
    let none : start.tokens ≡ [] = search rules in
    let is : c.into_inner.result.items ≡ new.before ++ print new.tokens = search rules in
    piece_printed (content_noted c.args.schema.now (shape_seen c.args.fields) (view_content c.args.members.now)) start new none c.in_ok-write_content.ensures c.args.text.items c.into_inner.result.items first is
