use Rattle.std.proofs.Common.{◌≡◌, ◌≤◌, ◌-◌, length, take}
use Rattle.ice_ports.specs.Talks.{adds, takes}
use Rattle.talking.proofs.writing.write_bytes.Given as goal

abbrev pub invariant-loop-at : goal.invariant-loop-at
invariant-loop-at g l = record {
  within : l.at ≤ length l.bytes;
  talk : g.L.Link.talk l.link ≡ adds (g.L.Link.talk l.fn.link) (takes (take l.at l.bytes));
  writes : g.L.Sink.failures l.link ≡ g.L.Sink.failures l.fn.link;
  reads : g.L.Source.failures l.link ≡ g.L.Source.failures l.fn.link;
}

abbrev pub decreases-loop-at : goal.decreases-loop-at
decreases-loop-at g l = length l.bytes - l.at
