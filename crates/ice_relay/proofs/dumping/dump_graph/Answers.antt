use Rattle.std.proofs.Common.{arith}
use Rattle.std.proofs.lemmas.Result.{err_from_is_err_and}
use Rattle.ice_relay.proofs.Lines.{dumped, dump_stops}
use Rattle.ice_relay.proofs.dumping.dump_graph.Goals as goal

pub returns-in_err-told : goal.returns-in_err-told
returns-in_err-told g c =
    let failed = err_from_is_err_and c.from_residual-in_err-told.result c.from_residual-in_err-told.ensures.1 in
    rw (failed.1, failed.2) (dump_stops c.args.schema.now c.args.kind c.in_ok-root_of.field-0 c.in_ok-root_of.ensures c.args.input.now c.in_ok-decode.field-0 c.in_ok-graph.graph (λ i. omega (arith, c.type_inv.input i)) c.in_ok-decode.ensures.reads c.in_ok-graph.ensures
    (g.K.Sink.taken c.args.sink.now) (g.K.Sink.taken c.tell_graph-told.new.sink) (g.K.Sink.failures c.args.sink.now) (g.K.Sink.failures c.tell_graph-told.new.sink) c.in_err-told.field-0.0 c.in_err-told.ensures)

pub returns : goal.returns
returns g c =
    dumped c.args.schema.now c.args.kind c.in_ok-root_of.field-0 c.in_ok-root_of.ensures c.args.input.now c.in_ok-decode.field-0 c.in_ok-graph.graph (λ i. omega (arith, c.type_inv.input i)) c.in_ok-decode.ensures.reads c.in_ok-graph.ensures
    (g.K.Sink.taken c.args.sink.now) (g.K.Sink.taken c.tell_graph-told.new.sink) (g.K.Sink.failures c.args.sink.now) (g.K.Sink.failures c.tell_graph-told.new.sink) c.in_ok-told.field-0 c.in_ok-told.ensures
