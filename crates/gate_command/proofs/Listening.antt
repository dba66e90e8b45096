-- Listening and forwarding, from what their steps came to.
use Rattle.std.proofs.Common.{◌≡◌, ◌≤◌, ◌⊎◌, ℕ, Bool, true, false, List, refl, sym, subst, inl, inr}
use Rattle.std.specs.Prelude.{nat_lt, Option}
use Rattle.std.proofs.lemmas.Bool.{false≢true}
use Rattle.ice_ports.specs.Failures.{count_after, one_more}
use Rattle.ice_ports.specs.Nets.{ToldNet, ToldListener, IsNewListener, told_after, asked_to_listen, came_back, gathered_of}
use Rattle.ice_ports.specs.Writing.{AppendsPrefix}
use Rattle.ice_gateway.specs.Gate.{Gate}
use Rattle.ice_gateway.specs.Runs.{NetSeen, net_seen}
use Rattle.ice_gateway.specs.Sessions.{AllServed}
use Rattle.node_commands.specs.declared.limits.TheConstants.{MOST_MESSAGES}
use Rattle.node_commands.specs.declared.ending.Ending.{Ending}
use Rattle.node_commands.specs.declared.ending.Ending.TheVariants as endings
use Rattle.node_commands.specs.declared.outcome.Outcome.TheVariants as outcomes
use Rattle.node_commands.specs.Lines.{listening}
use Rattle.node_commands.specs.Lines.{Tells}
use Rattle.node_commands.proofs.Counts.{retired, retired_unused, why_ended}
use Rattle.talking.specs.Told.{NoneToCome}
use Rattle.gate_command.specs.Words.{GateWords}
use Rattle.gate_command.specs.Gated.{Heard, IsPort, asked}
use Rattle.gate_command.specs.Steps.{Asks, Listens}

-- connections were served, and the listener came back
pub heard_of : {A B : Type 0} (c : GateWords) (gate : Gate) (first last : Option ToldListener) (net tried : NetSeen) (told : Option ToldNet) (failures counted none more wanted count : ℕ) (failed starved : Bool)
    → AllServed gate MOST_MESSAGES first last net tried count starved → count ≤ wanted
    → (failed ≡ false → starved ≡ false → ((count ≡ wanted) × A) ⊎ (B × NoneToCome last))
    → told ≡ came_back (gathered_of last) tried.told → failures ≡ tried.failures → counted ≡ count_after tried.listen_failures (nat_lt 0 more) → more ≡ count_after none failed → none ≡ 0
    → wanted ≡ c.connections → Heard c gate first net (net_seen told failures counted) count failed starved
heard_of c gate first last net tried told failures counted none more wanted count failed starved all few ended back kept retires accepts new same = record {
  last = last;
  tried = tried;
  all = all;
  few = subst (λ (z : ℕ). count ≤ z) same few;
  ended = λ f s. subst (λ (z : ℕ). (count ≡ z) ⊎ NoneToCome last) same (why_ended (ended f s));
  told = back;
  failures = kept;
  counted = retired tried.listen_failures counted more none failed retires accepts new;
}

-- the listener came back without a link
pub back_unused : (net : NetSeen) (first : Option ToldListener) (told : Option ToldNet) (failures counted n : ℕ)
    → told ≡ came_back (gathered_of first) net.told → failures ≡ net.failures → counted ≡ count_after net.listen_failures (nat_lt 0 n) → n ≡ 0
    → net_seen told failures counted ≡ record net { told = came_back (gathered_of first) net.told }
back_unused net first told failures counted n back kept retires none =
    let same : counted ≡ net.listen_failures = retired_unused net.listen_failures counted n retires none in
    λ i. record { told = back i; failures = kept i; listen_failures = same i }

-- where it listens could not be told
pub untold : (c : GateWords) (gate : Gate) (first : Option ToldListener) (port number : ℕ) (old new : Option (List ℕ)) (before after : ℕ) (net : NetSeen) (told : Option ToldNet) (failures counted n : ℕ) (b : Bool)
    → Tells old new before after b (listening number) → b ≡ false → number ≡ port
    → told ≡ came_back (gathered_of first) net.told → failures ≡ net.failures → counted ≡ count_after net.listen_failures (nat_lt 0 n) → n ≡ 0
    → Listens c gate first port old new before after net (net_seen told failures counted) (endings.Known outcomes.WriteFailed)
untold c gate first port number old new before after net told failures counted n true h off is back kept retires none = absurd (false≢true (sym off))
untold c gate first port number old new before after net told failures counted n false h off is back kept retires none =
    inl (refl, subst (λ (z : ℕ). AppendsPrefix old new (listening z)) is h.0, h.1, back_unused net first told failures counted n back kept retires none)

module _ (c : GateWords) (gate : Gate) (old new : Option (List ℕ)) (before after : ℕ) (net : NetSeen) (told : Option ToldNet) (failures counted : ℕ) where
  -- the net could not listen
  pub not_heard : told ≡ told_after (asked_to_listen c.host c.port) net.told → failures ≡ net.failures → counted ≡ one_more net.listen_failures → new ≡ old → after ≡ before
      → Asks c gate old new before after net (net_seen told failures counted) endings.NetworkFailed
  not_heard asks kept failed same none = inl (refl, same, none, λ i. record { told = asks i; failures = kept i; listen_failures = failed i })

  -- it listens
  pub heard_at : (first : Option ToldListener) (port : ℕ) (later : NetSeen) (ending : Ending) → told ≡ told_after (asked_to_listen c.host c.port) net.told → failures ≡ net.failures → counted ≡ net.listen_failures
      → IsNewListener net.told first → IsPort c port → Listens c gate first port old new before after (net_seen told failures counted) later ending → Asks c gate old new before after net later ending
  heard_at first port later ending asks kept same fresh is_port listens =
      let seen : net_seen told failures counted ≡ asked c net = λ i. record { told = asks i; failures = kept i; listen_failures = same i } in
      inr (first, port, fresh, is_port, subst (λ (n : NetSeen). Listens c gate first port old new before after n later ending) seen listens)
