use Rattle.std.proofs.lemmas.Result.{err_from_is_err_and}
use Rattle.ice_relay.proofs.OwnSequence.{sequence_told, sequence_stopped}
use Rattle.ice_relay.proofs.dumping.dump_to.Goals as goal

pub returns-in_err-tell_sequence-in-Some : goal.returns-in_err-tell_sequence-in-Some
returns-in_err-tell_sequence-in-Some g c =
    let failed = err_from_is_err_and c.from_residual.result c.from_residual.ensures.1 in
    rw (failed.1, failed.2) (sequence_stopped c.args.schema.now c.args.kind c.args.input.now c.in-Some.element c.in-Some.content.now c.rules.ensures c.in-Some.ensures
    (g.K.Sink.taken c.args.sink.now) (g.K.Sink.taken c.tell_sequence.new.sink) (g.K.Sink.failures c.args.sink.now) (g.K.Sink.failures c.tell_sequence.new.sink) c.in_err-tell_sequence-in-Some.field-0.0 c.in_err-tell_sequence-in-Some.ensures)

pub returns-in_ok-tell_sequence-in-Some : goal.returns-in_ok-tell_sequence-in-Some
returns-in_ok-tell_sequence-in-Some g c =
    sequence_told c.args.schema.now c.args.kind c.args.input.now c.in-Some.element c.in-Some.content.now c.rules.ensures c.in-Some.ensures
    (g.K.Sink.taken c.args.sink.now) (g.K.Sink.taken c.tell_sequence.new.sink) (g.K.Sink.failures c.args.sink.now) (g.K.Sink.failures c.tell_sequence.new.sink) c.in_ok-tell_sequence-in-Some.field-0 c.in_ok-tell_sequence-in-Some.ensures
