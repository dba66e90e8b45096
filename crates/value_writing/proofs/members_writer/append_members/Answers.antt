use Rattle.std.proofs.Common.{sym, ap, ◌∙◌}
use Rattle.graph_arena.specs.Seen.{view_content}
use Rattle.value_writing.specs.WritingMembers.{Remaining, remaining, members_left}
use Rattle.value_writing.proofs.WritingSteps.{all-left, fresh-goes}
use Rattle.value_writing.proofs.members_writer.append_members.Goals as goal

pub returns-in-Ok-Done-clause-writes : goal.returns-in-Ok-Done-clause-writes
returns-in-Ok-Done-clause-writes g c inside =
    let wrote =
    sym (all-left g.P.PutPort.put inside c.args.schema.now c.args.optional.now c.args.ending (view_content c.args.members.now) (c.args.port.now, c.args.out.now.items))
    ∙ ap (λ (r : Remaining). members_left g.P.PutPort.put inside c.args.schema.now c.args.optional.now r (c.args.port.now, c.args.out.now.items)) (sym c.in_ok-writer.ensures)
    ∙ rw c.in-Ok-Done.field-0-is at (c.in-Ok-Done.ensures.goes inside) in
    (sym (ap (λ w. w.1) wrote), sym (ap (λ w. w.0) wrote))

pub returns-in-Ok-Done-clause-grows : goal.returns-in-Ok-Done-clause-grows
returns-in-Ok-Done-clause-grows g c = c.go.ensures.grows c.args.out.now.items (fresh-goes (remaining c.in_ok-writer.writer) c.args.ending (view_content c.args.members.now) c.args.out.now.items c.in_ok-writer.ensures)

pub returns-clause-grows : goal.returns-clause-grows
returns-clause-grows g c = c.go.ensures.grows c.args.out.now.items (fresh-goes (remaining c.in_ok-writer.writer) c.args.ending (view_content c.args.members.now) c.args.out.now.items c.in_ok-writer.ensures)
