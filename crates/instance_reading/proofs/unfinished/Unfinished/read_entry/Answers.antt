use Rattle.instance_reading.proofs.Stages.{keeps_known, keeps_begins}
use Rattle.instance_reading.proofs.unfinished.Unfinished.read_entry.Goals as goal

pub returns-in_ok-keep_entry-in-Ok-Known-Some-clause-advances : goal.returns-in_ok-keep_entry-in-Ok-Known-Some-clause-advances
returns-in_ok-keep_entry-in-Ok-Known-Some-clause-advances c inside =
    keeps_known inside c.args.sort c.args.schema.now c.args.self.now c.keep_entry.new.self c.args.slice c.in-Ok-Known-Some.name c.args.arena.now c.take_ref.new.self c.args.cursor.now c.take_ref.new.cursor c.requires c.in_ok-keep_entry-in-Ok-Known-Some.ensures.keeps (rw (c.in-Ok-Known-Some.field-0-is, c.in-Ok-Known-Some.field-0-0-is) at c.in-Ok-Known-Some.ensures.takes)

pub returns-in_ok-keep_entry-in-Ok-Begins-clause-advances : goal.returns-in_ok-keep_entry-in-Ok-Begins-clause-advances
returns-in_ok-keep_entry-in-Ok-Begins-clause-advances c inside =
    keeps_begins inside c.args.sort c.args.schema.now c.args.self.now c.keep_entry-in-Ok-Begins.new.self c.args.slice c.in-Ok-Begins.name c.args.arena.now c.take_ref.new.self c.args.cursor.now c.take_ref.new.cursor c.requires c.in_ok-keep_entry-in-Ok-Begins.ensures.keeps (rw c.in-Ok-Begins.field-0-is at c.in-Ok-Begins.ensures.takes)
