use Rattle.std.proofs.Common.{sym, arith}
use Rattle.talking.proofs.Readers.{held_behind}
use Rattle.talking.proofs.hearing.take_piece.Goals as goal

pub returns : goal.returns
returns c = held_behind c.args.frames.now c.feed.new.self c.args.piece.now c.feed.result c.requires (λ i. omega (arith, c.type_inv.piece i)) (sym c.if-is_err.ensures.value) c.feed.ensures
