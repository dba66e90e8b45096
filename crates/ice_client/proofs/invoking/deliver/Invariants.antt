use Rattle.std.proofs.Common.{◌≡◌, List}
use Rattle.ice_client.specs.ClientDid.{Tried, Made}
use Rattle.ice_client.proofs.Delivering.{IsUnderWay}
use Rattle.ice_client.proofs.invoking.deliver.Given as goal

abbrev pub invariant-loop-client : goal.invariant-loop-client
invariant-loop-client g l = record {
  tried : List Tried;
  made : Made l.proxy.endpoints tried (g.N.Net.told l.fn.net) (g.N.Net.told l.net) (g.N.Net.failures l.fn.net) (g.N.Net.failures l.net);
  under_way : IsUnderWay l.outgoing l.retries l.number tried l.client;
  kept : g.N.Net.listen_failures l.net ≡ g.N.Net.listen_failures l.fn.net;
}

abbrev pub decreases-loop-client : goal.decreases-loop-client
decreases-loop-client g l = l.client.retries
