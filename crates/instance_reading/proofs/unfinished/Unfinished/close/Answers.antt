use Rattle.std.proofs.Common.{Ok}
use Rattle.value_parts.specs.declared.paused.Step.TheVariants as steps
use Rattle.instance_reading.proofs.Stages.{table_ends}
use Rattle.instance_reading.proofs.unfinished.Unfinished.close.Goals as goal

pub returns-clause-advances : goal.returns-clause-advances
returns-clause-advances c inside =
    table_ends inside c.args.sort c.args.schema.now c.args.self.now c.args.slice c.in_ok-read.read c.args.arena.now c.closed.new.arena c.args.cursor.now c.requires c.in_ok-read.ensures.slice c.in_ok-read.ensures.met
    c.complete.new.self (Ok steps.On) (c.in_ok-complete.ensures.completes inside c.args.sort c.args.schema.now c.closed.new.arena c.args.cursor.now)
