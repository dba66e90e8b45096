use Rattle.std.proofs.Common.{◌≡◌, List, false}
use Rattle.ice_ports.specs.declared.talk.Talk.{Talk}
use Rattle.ice_ports.specs.Talks.{adds}
use Rattle.ice_client.specs.ClientDid.{Tried}
use Rattle.talking.specs.Hearing.{IsGoing}
use Rattle.talking.specs.Said.{Counts}
use Rattle.ice_gateway.specs.Gate.{seen}
use Rattle.ice_gateway.specs.Runs.{Ran, net_seen}
use Rattle.ice_gateway.specs.Parts.{Part}
use Rattle.ice_gateway.proofs.session.handle_all.Given as goal

abbrev pub invariant-loop-taken : goal.invariant-loop-taken
invariant-loop-taken g l = record {
  going : IsGoing l.frames;
  did : (t : Talk) × (runs : List (List Tried)) × (g.L.Link.talk l.link ≡ adds (g.L.Link.talk l.fn.link) t)
      × Ran l.gateway.upstream.now.endpoints runs (net_seen (g.N.Net.told l.fn.net) (g.N.Net.failures l.fn.net) (g.N.Net.listen_failures l.fn.net)) (net_seen (g.N.Net.told l.net) (g.N.Net.failures l.net) (g.N.Net.listen_failures l.net))
      × Part (seen l.gateway) runs t l.frames.bytes l.taken;
  counts : Counts false (g.L.Source.failures l.fn.link, g.L.Sink.failures l.fn.link) (g.L.Source.failures l.link, g.L.Sink.failures l.link);
}
