use Rattle.std.proofs.Common.{◌≡◌, List, length}
use Rattle.call_command.specs.Planning.{seen}
use Rattle.call_command.specs.Rounds.{Delivery, Printed, IsUsed, rounds_of, net_seen, sink_seen}
use Rattle.call_command.proofs.performing.perform_with.Given as goal

abbrev pub invariant-loop : goal.invariant-loop
invariant-loop g l = record {
  deliveries : List Delivery;
  printed : Printed (seen l.plan) deliveries l.cache (sink_seen (g.K.Sink.taken l.fn.sink) (g.K.Sink.failures l.fn.sink)) (sink_seen (g.K.Sink.taken l.sink) (g.K.Sink.failures l.sink));
  used : IsUsed (rounds_of deliveries) (net_seen (g.N.Net.told l.fn.net) (g.N.Net.failures l.fn.net) (g.N.Net.listen_failures l.fn.net)) (net_seen (g.N.Net.told l.net) (g.N.Net.failures l.net) (g.N.Net.listen_failures l.net));
  counted : length deliveries ≡ l.counter;
}
