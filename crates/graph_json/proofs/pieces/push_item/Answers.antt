use Rattle.std.proofs.Common.{◌≡◌, [], ◌++◌, rules}
use Rattle.graph_arena.specs.View.{view}
use Rattle.graph_json.specs.CanonicalValues.{notation_levels}
use Rattle.json.specs.Print.{print}
use Rattle.graph_json.proofs.Printing.{piece_printed}
use Rattle.graph_json.proofs.pieces.push_item.Goals as goal

pub returns : goal.returns
returns c =
    let start = c.new-out.result in
    let new = c.write_level.new.out in
    let first : start.before ≡ c.args.text.items = search rules in
    let none : start.tokens ≡ [] = search rules in
    let is : c.into_inner.result.items ≡ new.before ++ print new.tokens = search rules in
    piece_printed (notation_levels c.args.schema.now 99 c.args.kind (view c.args.value.now)) start new none c.in_ok-write_level.ensures c.args.text.items c.into_inner.result.items first is
