use Rattle.std.proofs.Common.{◌≡◌, ℕ, ◌+◌, ◌-◌, List, ◌++◌, length}
use Rattle.ice_ports.specs.Talks.{adds, gives}
use Rattle.ice_ports.specs.declared.ports.TheConstants.{MOST_OF_A_READ}
use Rattle.ice_encoding.specs.declared.limits.TheConstants.{LARGEST}
use Rattle.talking.specs.Hearing.{IsGoing, ReadsFrugally}
use Rattle.talking.proofs.hearing.hear.Given as goal

abbrev pub invariant-loop-message : goal.invariant-loop-message
invariant-loop-message g l = record {
  heard : (got : List ℕ) × (g.L.Link.talk l.link ≡ adds (g.L.Link.talk l.fn.link) (gives got)) × (l.frames.bytes ≡ l.fn.frames.bytes ++ got)
      × ReadsFrugally l.fn.frames.bytes got;
  going : IsGoing l.frames;
  reads : g.L.Source.failures l.link ≡ g.L.Source.failures l.fn.link;
  writes : g.L.Sink.failures l.link ≡ g.L.Sink.failures l.fn.link;
}

abbrev pub decreases-loop-message : goal.decreases-loop-message
decreases-loop-message g l = LARGEST + MOST_OF_A_READ - length l.frames.bytes
