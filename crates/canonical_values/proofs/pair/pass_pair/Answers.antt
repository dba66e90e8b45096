use Rattle.std.proofs.Common.{arith, ◌-◌, Some}
use Rattle.canonical_values.specs.declared.frame.Left.TheVariants.{Pairs}
use Rattle.canonical_values.specs.declared.frame.Frame.{Frame}
use Rattle.canonical_values.proofs.Joined.{by_step, pairs_step}
use Rattle.canonical_values.proofs.pair.pass_pair.Goals as goal

pub returns : goal.returns
returns c =
    let old : Frame = record { levels = c.args.levels; left = Pairs c.args.kinds.0 c.args.kinds.1 c.args.count c.args.last } in
    let new : Frame = record { levels = c.args.levels; left = Pairs c.args.kinds.0 c.args.kinds.1 (c.args.count - 1) (Some (c.args.at, c.in-Some.end)) } in
    by_step c.args.schema.now c.args.input.now c.args.at old new c.pass_part-part.result c.as_step.result c.as_step.ensures
    (pairs_step c.args.schema.now c.args.input.now c.args.levels c.args.at c.in-Some.end c.args.count c.args.kinds.0 c.args.kinds.1 c.args.last c.pass_part-part.result (omega arith) c.in-Some.ensures c.pass_part-part.ensures)
