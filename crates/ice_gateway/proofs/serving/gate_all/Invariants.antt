use Rattle.std.proofs.Common.{◌≡◌, false}
use Rattle.ice_gateway.specs.Gate.{seen}
use Rattle.ice_gateway.specs.Runs.{net_seen}
use Rattle.ice_gateway.specs.Sessions.{HasServed}
use Rattle.ice_gateway.proofs.serving.gate_all.Given as goal

abbrev pub invariant-loop-accepted : goal.invariant-loop-accepted
invariant-loop-accepted g l = record {
  served : HasServed (seen l.gateway) l.messages (g.D.Listener.told l.fn.door) (g.D.Listener.told l.door) (g.D.Tray.Tray.told l.tray)
      (net_seen (g.N.Net.told l.fn.net) (g.N.Net.failures l.fn.net) (g.N.Net.listen_failures l.fn.net)) (net_seen (g.N.Net.told l.net) (g.N.Net.failures l.net) (g.N.Net.listen_failures l.net)) l.accepted false;
  failures : g.D.Listener.failures l.door ≡ g.D.Listener.failures l.fn.door;
  nones : g.D.Listener.nones l.door ≡ g.D.Listener.nones l.fn.door;
}
