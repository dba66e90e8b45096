use Rattle.std.proofs.Common.{◌≡◌, ◌-◌}
use Rattle.ice_messages.specs.declared.ends.TheConstants.{MOST_MESSAGES}
use Rattle.ice_client.proofs.Reading.{Waited}
use Rattle.ice_client.proofs.phases.await_reply.Given as goal

abbrev pub invariant-loop-heard : goal.invariant-loop-heard
invariant-loop-heard g l = record {
  waited : Waited l.fn.frames l.frames l.before (g.L.Link.talk l.fn.link) (g.L.Link.talk l.link);
  reads : g.L.Source.failures l.link ≡ g.L.Source.failures l.fn.link;
  writes : g.L.Sink.failures l.link ≡ g.L.Sink.failures l.fn.link;
}

abbrev pub decreases-loop-heard : goal.decreases-loop-heard
decreases-loop-heard g l = MOST_MESSAGES - l.before
