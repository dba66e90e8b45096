use Rattle.std.proofs.Common.{arith}
use Rattle.message_dump.specs.Steps.{fed}
use Rattle.message_dump.proofs.Advancing.{fed_sound, out_of_memory}
use Rattle.message_dump.proofs.telling.Telling.take.Goals as goal

pub returns-then-is_err-clause-told : goal.returns-then-is_err-clause-told
returns-then-is_err-clause-told g c =
    let sound = fed_sound c.args.self.now c.args.piece.now (λ i. omega (arith, c.type_inv.piece i)) c.requires in
    out_of_memory (Unit {0}) (fed c.args.self.now c.args.piece.now) c.args.self.now (g.K.Sink.taken c.args.sink.now) (g.K.Sink.failures c.args.sink.now) sound
