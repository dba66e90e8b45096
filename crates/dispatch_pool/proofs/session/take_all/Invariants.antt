use Rattle.std.proofs.Common.{◌≡◌, false}
use Rattle.ice_ports.specs.declared.talk.Talk.{Talk}
use Rattle.ice_ports.specs.Talks.{adds}
use Rattle.retry_core.specs.declared.server.ServerState.TheVariants.{Reading}
use Rattle.talking.specs.Hearing.{IsGoing}
use Rattle.talking.specs.Said.{Counts}
use Rattle.dispatch_pool.specs.Lanes.{AreOf}
use Rattle.dispatch_pool.specs.Parts.{Part}
use Rattle.dispatch_pool.proofs.session.take_all.Given as goal

abbrev pub invariant-loop-taken : goal.invariant-loop-taken
invariant-loop-taken g l = record {
  of : AreOf l.service.lanes.now l.passes;
  state : l.server ≡ Reading;
  going : IsGoing l.frames;
  did : (t : Talk) × (g.L.Link.talk l.link ≡ adds (g.L.Link.talk l.fn.link) t) × Part l.service.lanes.now.keys l.fn.passes.passes.items l.passes.passes.items t l.frames.bytes l.taken;
  counts : Counts false (g.L.Source.failures l.fn.link, g.L.Sink.failures l.fn.link) (g.L.Source.failures l.link, g.L.Sink.failures l.link);
}
