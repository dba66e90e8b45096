use Rattle.std.proofs.Common.{◌≡◌, take}
use Rattle.std.specs.List.{flat_map}
use Rattle.std.specs.Io.KnownBytes.{Appends}
use Rattle.ice_ports.proofs.output.write_pieces.Given as goal

abbrev pub invariant-loop-piece : goal.invariant-loop-piece
invariant-loop-piece g l = record {
  taken : Appends (g.K.Sink.taken l.fn.sink) (g.K.Sink.taken l.sink) (flat_map (λ piece. piece.now) (take l.piece-index l.pieces));
  count : g.K.Sink.failures l.sink ≡ g.K.Sink.failures l.fn.sink;
}
