use Rattle.std.proofs.Common.{OnOk, rules, subst}
use Rattle.std.proofs.lemmas.Result.{on_ok_weaker}
use Rattle.serde_json.specs.Data.{Items, array}
use Rattle.graph_arena.specs.View.{byte_trees}
use Rattle.graph_json.specs.CanonicalValues.{each_noted, notation_levels}
use Rattle.graph_json.specs.Printing.{Prints, PrintsItems}
use Rattle.graph_json.proofs.Printing.{array_printed, wrote}
use Rattle.graph_json.proofs.WritingValues.{each_byte}
use Rattle.graph_json.proofs.write.write_bytes.Goals as goal

pub returns-in_ok-begin_array-in-Some : goal.returns-in_ok-begin_array-in-Some
returns-in_ok-begin_array-in-Some c =
    let kind = c.in-Some.decl.now.element in
    let begin = wrote c.begin_array.result c.in_ok-begin_array-in-Some.field-0 c.in_ok-begin_array-in-Some.was c.begin_array.ensures in
    let noted = each_byte c.args.schema.now c.args.levels kind c.is_byte_type.result c.args.bytes.now c.is_byte_type.ensures in
    let printed : OnOk c.write_each_byte.result (Prints (array (each_noted (notation_levels c.args.schema.now c.args.levels kind) (byte_trees c.args.bytes.now))) c.args.out.now c.write_each_byte.new.out) =
    on_ok_weaker c.write_each_byte.result (λ w. array_printed begin (subst (λ (ds : Items). PrintsItems ds c.begin_array.new.self c.write_each_byte.new.out) noted w)) c.write_each_byte.ensures in
    search (rules, printed)
