use Rattle.std.proofs.Common.{get_or, refl}
use Rattle.graph_json.specs.ValueNotation.{name_noted}
use Rattle.graph_json.specs.Canonical.{items_noted}
use Rattle.graph_json.proofs.Printing.{all_printed, one_more}
use Rattle.graph_json.proofs.writing.write_names.Goals as goal

pub loop-name-preserved : goal.loop-name-preserved
loop-name-preserved c =
    one_more (items_noted name_noted) name_noted (λ x xs. refl) c.args.names.now c.loop-name.name-index c.args.out.now c.loop-name.out c.write_name.new.out
    (get_or c.args.names.now c.loop-name.name-index 0) 0 c.loop-name-test.true refl c.loop-name.invariant c.in_ok-write_name.ensures

pub returns : goal.returns
returns c =
    all_printed (items_noted name_noted) refl c.args.names.now c.loop-name.name-index c.args.out.now c.loop-name.out c.end_array.new.self c.end_array.result
    c.loop-name-test.false c.loop-name.invariant c.end_array.ensures
