use Rattle.std.proofs.Common.{length, Ok}
use Rattle.message_dump.specs.Steps.{IsSound, TellsOn}
use Rattle.message_dump.proofs.telling.Telling.tell_known.Given as goal

abbrev pub invariant-loop : goal.invariant-loop
invariant-loop g l = record {
  sound : IsSound l.self;
  told : TellsOn {X = Unit {0}} l.fn.self l.self (g.K.Sink.taken l.fn.sink) (g.K.Sink.taken l.sink) (g.K.Sink.failures l.fn.sink) (g.K.Sink.failures l.sink) (Ok tt);
}

abbrev pub decreases-loop : goal.decreases-loop
decreases-loop g l = length l.self.frames.bytes
