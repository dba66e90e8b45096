use Rattle.std.proofs.Common.{arith, ◌-◌}
use Rattle.canonical_values.specs.declared.frame.Left.TheVariants.{Items}
use Rattle.canonical_values.specs.declared.frame.Frame.{Frame}
use Rattle.canonical_values.proofs.Joined.{by_step, items_step}
use Rattle.canonical_values.proofs.Passed.{items_on}
use Rattle.canonical_values.proofs.item.pass_item.Goals as goal

pub returns-then-is_leaf : goal.returns-then-is_leaf
returns-then-is_leaf c =
    items_on c.args.schema.now c.args.input.now c.args.levels c.args.count c.pass_items-left.result.0 c.args.at c.pass_items-left.result.1 c.args.kind (omega arith) c.pass_items-left.ensures

pub returns : goal.returns
returns c =
    let old : Frame = record { levels = c.args.levels; left = Items c.args.kind c.args.count } in
    let new : Frame = record { levels = c.args.levels; left = Items c.args.kind (c.args.count - 1) } in
    by_step c.args.schema.now c.args.input.now c.args.at old new c.pass_part-part.result c.as_step.result c.as_step.ensures
    (items_step c.args.schema.now c.args.input.now c.args.at c.args.levels c.args.count c.args.kind c.pass_part-part.result (omega arith) (omega arith) c.pass_part-part.ensures)
