use Rattle.std.proofs.Common.{Bool, Ok, Err}
use Rattle.std.proofs.lemmas.Result.{err_from_is_err_and}
use Rattle.message_dump.proofs.Advancing.{goes_on}
use Rattle.message_dump.proofs.telling.Telling.tell_known.Goals as goal

pub returns-in_err-tell_next-clause-told : goal.returns-in_err-tell_next-clause-told
returns-in_err-tell_next-clause-told g c =
    let failed = err_from_is_err_and c.from_residual.result c.from_residual.ensures.1 in
    let before = c.loop.invariant.told in
    rw (failed.1, failed.2) (goes_on {X = Bool} c.args.self.now c.loop.self c.tell_next.new.self (g.K.Sink.taken c.args.sink.now) (g.K.Sink.taken c.loop.sink) (g.K.Sink.taken c.tell_next.new.sink)
    (g.K.Sink.failures c.args.sink.now) (g.K.Sink.failures c.loop.sink) (g.K.Sink.failures c.tell_next.new.sink) before.0 (Err c.in_err-tell_next.field-0.0) before.1 before.2 before.3 c.in_err-tell_next.ensures.told)

pub loop-preserved : goal.loop-preserved
loop-preserved g c =
    let before = c.loop.invariant.told in
    record {
      sound = c.in_ok-tell_next.ensures.told.1.sound;
      told = goes_on {X = Bool} c.args.self.now c.loop.self c.tell_next.new.self (g.K.Sink.taken c.args.sink.now) (g.K.Sink.taken c.loop.sink) (g.K.Sink.taken c.tell_next.new.sink)
          (g.K.Sink.failures c.args.sink.now) (g.K.Sink.failures c.loop.sink) (g.K.Sink.failures c.tell_next.new.sink) before.0 (Ok c.in_ok-tell_next.field-0) before.1 before.2 before.3 c.in_ok-tell_next.ensures.told;
    }

pub returns-clause-told : goal.returns-clause-told
returns-clause-told g c =
    let before = c.loop.invariant.told in
    goes_on {X = Bool} c.args.self.now c.loop.self c.tell_next.new.self (g.K.Sink.taken c.args.sink.now) (g.K.Sink.taken c.loop.sink) (g.K.Sink.taken c.tell_next.new.sink)
    (g.K.Sink.failures c.args.sink.now) (g.K.Sink.failures c.loop.sink) (g.K.Sink.failures c.tell_next.new.sink) before.0 (Ok c.in_ok-tell_next.field-0) before.1 before.2 before.3 c.in_ok-tell_next.ensures.told
