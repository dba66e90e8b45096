use Rattle.std.proofs.Common.{◌≡◌, ℕ, suc, ◌-◌, Err, Ok, rules, subst, arith}
use Rattle.graph_arena.specs.Seen.{view_present}
use Rattle.value_parts.specs.Shapes.{with_tag}
use Rattle.ice_values.specs.Unread.{left_options, options_behind, option_behind}
use Rattle.ice_values.proofs.Joined.{steps-along}
use Rattle.ice_values.proofs.OptionParts.{no-steps, next-ends, next-refused, next-tagged}
use Rattle.ice_values.proofs.options.OptionsReader.next.Goals as goal

pub returns-then-self-eq0-clause-advances : goal.returns-then-self-eq0-clause-advances
returns-then-self-eq0-clause-advances g c inside =
    rw (c.if-self-eq0.true, c.fault.ensures) (no-steps g.P.RefPort.take c.args.schema.now inside c.args.marked (with_tag c.args.members.now) (view_present c.args.self.now.done) c.args.self.now.last c.args.port.now c.args.cursor.now)

pub returns-in_err-take_tag-clause-advances : goal.returns-in_err-take_tag-clause-advances
returns-in_err-take_tag-clause-advances g c inside =
    let old = c.args.self.now in
    let had = view_present old.done in
    let more : suc (old.steps - 1) ≡ old.steps = omega arith in
    let refused = subst (λ (n : ℕ). options_behind g.P.RefPort.take c.args.schema.now inside c.args.marked (with_tag c.args.members.now) had n old.last c.args.port.now c.args.cursor.now ≡ Err c.in_err-take_tag.field-0.0) more
    (next-refused g.P.RefPort.take c.args.schema.now inside c.args.marked (with_tag c.args.members.now) had (old.steps - 1) old.last c.in_err-take_tag.field-0.0 c.args.port.now c.args.cursor.now c.in_err-take_tag.ensures.0) in
    search (rules, refused)

pub returns-in-None-clause-advances : goal.returns-in-None-clause-advances
returns-in-None-clause-advances g c inside =
    let old = c.args.self.now in
    let had = view_present old.done in
    let more : suc (old.steps - 1) ≡ old.steps = omega arith in
    subst (λ (n : ℕ). options_behind g.P.RefPort.take c.args.schema.now inside c.args.marked (with_tag c.args.members.now) had n old.last c.args.port.now c.args.cursor.now ≡ Ok (had, c.args.port.now, c.take_tag.new.cursor)) more
    (next-ends g.P.RefPort.take c.args.schema.now inside c.args.marked (with_tag c.args.members.now) had (old.steps - 1) old.last c.args.port.now c.args.cursor.now c.take_tag.new.cursor (rw c.in-None.is at c.in_ok-take_tag.ensures))

pub returns-in-Some-clause-advances : goal.returns-in-Some-clause-advances
returns-in-Some-clause-advances g c inside =
    let old = c.args.self.now in
    let had = view_present old.done in
    let more : suc (old.steps - 1) ≡ old.steps = omega arith in
    let tagged = next-tagged g.P.RefPort.take c.args.schema.now inside c.args.marked (with_tag c.args.members.now) had (old.steps - 1) old.last c.in-Some.tag c.in-Some.format c.args.port.now c.args.cursor.now c.take_tag.new.cursor (rw c.in-Some.is at c.in_ok-take_tag.ensures) in
    steps-along inside (left_options g.P.RefPort.take c.args.schema.now inside c.args.marked (with_tag c.args.members.now) c.begin.new.self) (λ _. view_present c.begin.new.self.done) c.begin.result _ _ c.begin.new.port c.begin.new.cursor
    (subst (λ (n : ℕ). options_behind g.P.RefPort.take c.args.schema.now inside c.args.marked (with_tag c.args.members.now) had n old.last c.args.port.now c.args.cursor.now ≡ option_behind g.P.RefPort.take c.args.schema.now inside c.args.marked (with_tag c.args.members.now) had (old.steps - 1) c.place-place.result c.in-Some.tag c.kind_tagged-kind.result c.in-Some.format c.args.port.now c.take_tag.new.cursor) more
    (rw (c.place-place.ensures, c.kind_tagged-kind.ensures.among_tagged) tagged)) (c.begin.ensures.advances inside c.args.marked (with_tag c.args.members.now))
