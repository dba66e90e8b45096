use Rattle.std.proofs.Common.{rules, arith, ◌+◌}
use Rattle.canonical_values.specs.declared.frame.Left.TheVariants.{Members}
use Rattle.canonical_values.specs.declared.frame.Frame.{Frame}
use Rattle.canonical_values.proofs.Joined.{by_step, members_step}
use Rattle.canonical_values.proofs.Passed.{members_on}
use Rattle.canonical_values.proofs.member.pass_member.Goals as goal

pub returns-then-behind-next : goal.returns-then-behind-next
returns-then-behind-next c =
    members_on c.args.schema.now c.args.input.now c.args.levels c.args.place c.args.next c.pass_members-behind.result.0 c.args.at c.pass_members-behind.result.1 (omega arith) c.pass_members-behind.ensures

pub returns-in-Some-Some : goal.returns-in-Some-Some
returns-in-Some-Some c =
    let old : Frame = record { levels = c.args.levels; left = Members c.args.place c.args.next } in
    let new : Frame = record { levels = c.args.levels; left = Members c.args.place (c.args.next + 1) } in
    by_step c.args.schema.now c.args.input.now c.args.at old new c.pass_part-part.result c.as_step.result c.as_step.ensures
    (members_step c.args.schema.now c.args.input.now c.args.at c.args.levels c.args.place c.args.next c.in-Some-Some.kind c.pass_part-part.result (omega arith) (search rules) c.pass_part-part.ensures)
