use Rattle.std.proofs.Common.{rules, ◌≡◌, sym, add-one, arith}
use Rattle.graph_arena.specs.View.{view_all}
use Rattle.ice_values.specs.Unread.{kinds_left}
use Rattle.ice_values.proofs.RequiredParts.{begun-less, member-begins, member-passed, member-ends, members-end}
use Rattle.ice_values.proofs.required.RequiredReader.step.Goals as goal

pub returns-in_ok-push_value-in-Done-clause-advances : goal.returns-in_ok-push_value-in-Done-clause-advances
returns-in_ok-push_value-in-Done-clause-advances g c inside =
    let old = c.args.self.now in
    let had : old.reader ≡ _ = c.in-Some.is in
    rw (had, c.take.ensures.after) (member-ends g.P.RefPort.take c.args.schema.now inside c.in-Some.reader old.done c.push_value.new.done c.in-Done.value (kinds_left c.args.members.now old.next) c.args.port.now c.go.new.port c.args.cursor.now c.go.new.cursor (rw c.in-Done.is at (c.in_ok-value-in-Some.ensures.goes inside)) c.in_ok-push_value-in-Done.ensures)

pub returns-then-is_none-clause-advances : goal.returns-then-is_none-clause-advances
returns-then-is_none-clause-advances g c inside =
    let old = c.args.self.now in
    let had : old.reader ≡ _ = c.in-None.is in
    rw (had, c.replace.ensures.after, c.new.ensures, add-one) (member-begins g.P.RefPort.take c.args.schema.now inside (view_all old.done) c.args.members.now old.next c.in-Some-next_member.member.now c.args.port.now c.args.cursor.now (sym c.in-Some-next_member.ensures.next) (search (rules, c.is_none.ensures, c.if-is_none.true)))

pub returns-then-is_none-clause-less : goal.returns-then-is_none-clause-less
returns-then-is_none-clause-less g c =
    let old = c.args.self.now in
    let had : old.reader ≡ _ = c.in-None.is in
    rw (had, c.replace.ensures.after) (begun-less c.args.members.now old.next 1 c.in-Some-next_member.member.now (sym c.in-Some-next_member.ensures.next) (omega arith))

pub returns-else-is_none-clause-advances : goal.returns-else-is_none-clause-advances
returns-else-is_none-clause-advances g c inside =
    let old = c.args.self.now in
    let had : old.reader ≡ _ = c.in-None.is in
    rw (had, add-one) (member-passed g.P.RefPort.take c.args.schema.now inside (view_all old.done) c.args.members.now old.next c.in-Some-next_member.member.now c.args.port.now c.args.cursor.now (sym c.in-Some-next_member.ensures.next) (search (rules, c.is_none.ensures, c.if-is_none.false)))

pub returns-else-is_none-clause-less : goal.returns-else-is_none-clause-less
returns-else-is_none-clause-less g c =
    let old = c.args.self.now in
    let had : old.reader ≡ _ = c.in-None.is in
    rw had (begun-less c.args.members.now old.next 0 c.in-Some-next_member.member.now (sym c.in-Some-next_member.ensures.next) (omega arith))

pub returns-in-None-next_member-clause-advances : goal.returns-in-None-next_member-clause-advances
returns-in-None-next_member-clause-advances g c inside =
    let old = c.args.self.now in
    let had : old.reader ≡ _ = c.in-None.is in
    rw had (members-end g.P.RefPort.take c.args.schema.now inside (view_all old.done) c.args.members.now old.next c.args.port.now c.args.cursor.now (sym c.in-None-next_member.ensures.next))
