use Rattle.std.proofs.Common.{◌≡◌, List}
use Rattle.locator.specs.Keys.{key_of}
use Rattle.locator.specs.Rounds.{WereMade}
use Rattle.locator.specs.Steps.{target_of}
use Rattle.locator.specs.Through.{Leg, Went, rounds_of}
use Rattle.locator.proofs.Legs.{IsUnderWay}
use Rattle.locator.proofs.through.deliver.Given as goal

abbrev pub invariant-loop-client : goal.invariant-loop-client
invariant-loop-client g l = record {
  keyed : l.key ≡ key_of l.target.proxy.now;
  legs : List Leg;
  made : WereMade (rounds_of 0 legs) (g.N.Net.told l.fn.net) (g.N.Net.told l.net) (g.N.Net.failures l.fn.net) (g.N.Net.failures l.net);
  went : Went (target_of l.target) 0 l.fn.cache legs l.cache;
  under_way : IsUnderWay l.outgoing l.target.retries l.number legs l.client;
  kept : g.N.Net.listen_failures l.net ≡ g.N.Net.listen_failures l.fn.net;
}

abbrev pub decreases-loop-client : goal.decreases-loop-client
decreases-loop-client g l = l.client.retries
