use Rattle.std.proofs.Common.{ap, ◌∙◌}
use Rattle.std.proofs.lemmas.Result.{err_from_is_err_and}
use Rattle.ice_ports.specs.Failures.{one_more}
use Rattle.ice_ports.proofs.Written.{stops_in, writes_prefix}
use Rattle.ice_ports.proofs.output.write_pieces.Goals as goal

pub returns-in_err-write_all : goal.returns-in_err-write_all
returns-in_err-write_all g c =
    let failed = err_from_is_err_and c.from_residual.result c.from_residual.ensures.1 in
    writes_prefix (g.K.Sink.taken c.args.sink.now) (g.K.Sink.taken c.write_all.new.sink) (g.K.Sink.failures c.args.sink.now) (g.K.Sink.failures c.write_all.new.sink) c.from_residual.result failed.0 _ failed.1
    (stops_in (g.K.Sink.taken c.args.sink.now) (g.K.Sink.taken c.loop-piece.sink) (g.K.Sink.taken c.write_all.new.sink) c.args.pieces.now c.loop-piece.piece-index _ c.as_bytes.result.now c.loop-piece-test.true c.as_bytes.ensures.value c.loop-piece.invariant.taken c.in_err-write_all.ensures.0)
    (c.in_err-write_all.ensures.1 ∙ ap one_more c.loop-piece.invariant.count)
