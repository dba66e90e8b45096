use Rattle.std.proofs.Common.{◌≡◌, ℕ, List, ◌+◌, ◌-◌, ◌*◌, length}
use Rattle.std.specs.Io.KnownBytes.{Appends, Consumes}
use Rattle.ice_encoding.specs.declared.limits.TheConstants.{LARGEST}
use Rattle.message_dump.specs.declared.dump.TheConstants.{MOST_MESSAGES}
use Rattle.message_dump.specs.Sources.{Waits}
use Rattle.message_dump.specs.Steps.{Advances, untold}
use Rattle.message_dump.proofs.dump.dump_messages.Given as goal

abbrev pub invariant-loop-telling : goal.invariant-loop-telling
invariant-loop-telling g l = record {
  got : List ℕ;
  lines : List ℕ;
  consumed : Consumes (g.S.Source.left l.fn.source) (g.S.Source.left l.source) got;
  taken : Appends (g.K.Sink.taken l.fn.sink) (g.K.Sink.taken l.sink) lines;
  told : Advances (untold got) l.telling lines;
  waits : Waits l.telling.count l.telling.frames.bytes;
  reads : g.S.Source.failures l.source ≡ g.S.Source.failures l.fn.source;
  writes : g.K.Sink.failures l.sink ≡ g.K.Sink.failures l.fn.sink;
}

abbrev pub decreases-loop-telling : goal.decreases-loop-telling
decreases-loop-telling g l = (MOST_MESSAGES + 1) * LARGEST - (l.telling.place + length l.telling.frames.bytes)
