use Rattle.std.proofs.Common.{sym, ◌∙◌}
use Rattle.instance_reading.proofs.Stages.{begins_next, fails_next}
use Rattle.instance_reading.proofs.unfinished.Unfinished.begin.Goals as goal

pub returns-in-Ok-clause-advances : goal.returns-in-Ok-clause-advances
returns-in-Ok-clause-advances c inside =
    rw c.set_stage.ensures (begins_next inside c.args.sort c.args.schema.now c.args.self.now c.args.before c.args.arena.now c.begin_slice.new.arena c.args.cursor.now c.begin_slice.new.cursor (sym c.is_over.ensures ∙ c.if-is_over.false)
    c.in-Ok.stage c.if-self-eq0.false c.in-Ok.ensures.slice)

pub returns-in-Err-clause-advances : goal.returns-in-Err-clause-advances
returns-in-Err-clause-advances c inside =
    fails_next inside c.args.sort c.args.schema.now c.args.self.now c.args.before c.args.arena.now c.begin_slice.new.arena c.args.cursor.now c.begin_slice.new.cursor (sym c.is_over.ensures ∙ c.if-is_over.false)
    c.in-Err.fault c.if-self-eq0.false c.in-Err.ensures.slice
