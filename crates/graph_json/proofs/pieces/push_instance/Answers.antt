use Rattle.std.proofs.Common.{◌≡◌, [], ◌++◌, rules}
use Rattle.graph_arena.specs.Seen.{view_slices}
use Rattle.graph_json.specs.Canonical.{instance_noted}
use Rattle.json.specs.Print.{print}
use Rattle.graph_json.proofs.Printing.{piece_printed}
use Rattle.graph_json.proofs.pieces.push_instance.Goals as goal

pub returns : goal.returns
returns c =
    let start = c.new-out.result in
    let new = c.write_instance.new.out in
    let first : start.before ≡ c.args.text.items = search rules in
    let none : start.tokens ≡ [] = search rules in
    let is : c.into_inner.result.items ≡ new.before ++ print new.tokens = search rules in
    piece_printed (instance_noted c.args.schema.now (view_slices c.args.slices.now)) start new none c.in_ok-write_instance.ensures c.args.text.items c.into_inner.result.items first is
