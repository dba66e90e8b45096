use Rattle.std.proofs.Common.{refl}
use Rattle.call_command.specs.Endings.{finished, ending_seen}
use Rattle.call_command.proofs.Stepping.{no_line}
use Rattle.call_command.proofs.calling.call.Goals as goal

pub returns-in-Ok : goal.returns-in-Ok
returns-in-Ok g c = record {
  ended = finished;
  returned = refl;
  comes = c.in-Ok.ensures.comes;
  taken = c.in-Ok.ensures.taken;
  line = no_line (g.E.Sink.taken c.args.errors.now) (g.E.Sink.failures c.args.errors.now);
}

pub returns-in-Err : goal.returns-in-Err
returns-in-Err g c = record {
  ended = ending_seen c.in-Err.ending;
  returned = c.report.ensures.status;
  comes = c.in-Err.ensures.comes;
  taken = c.in-Err.ensures.taken;
  line = c.report.ensures.line;
}
