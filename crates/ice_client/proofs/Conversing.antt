-- Attempts, with a connection and without one, and what the net tells of them.
use Rattle.std.proofs.Common.{◌≡◌, ℕ, Bool, false, List, [], ◌∷◌, Option, None, Some, Result, Ok, Err, refl, ap, ◌∙◌}
use Rattle.ice_ports.specs.declared.talk.Talk.{Talk}
use Rattle.ice_ports.specs.Talks.{adds}
use Rattle.ice_ports.specs.Failures.{count_after}
use Rattle.ice_ports.specs.Nets.{ToldNet, told_after, connected, came_back, one_talk, IsNew, has_failed}
use Rattle.ice_messages.specs.Framing.{Held}
use Rattle.retry_core.specs.declared.attempt.Attempt.TheVariants as tries
use Rattle.retry_core.specs.declared.client_table.ClientEvent.TheVariants as events
use Rattle.retry_core.specs.declared.client_table.ClientState.{ClientState}
use Rattle.retry_core.specs.declared.client_table.ClientState.TheVariants as states
use Rattle.retry_core.specs.Client.{Invoking, MayCome}
use Rattle.ice_client.specs.declared.outcome.Outcome.TheVariants as outcomes
use Rattle.ice_client.specs.declared.outcome.End.{End}
use Rattle.ice_client.specs.declared.outcome.Once.{Once}
use Rattle.ice_client.specs.declared.outgoing.Outgoing.{Outgoing}
use Rattle.ice_client.specs.Steps.{Greets}
use Rattle.ice_client.specs.Asking.{IsFor, Ends, Converses, Attempts}
use Rattle.ice_client.specs.Attempted.{attempted}
use Rattle.ice_client.proofs.Rowed.{at_state, over, row_over, end_comes, unsent, moved}

-- ---- one that is connected

module _ (E : Type 0) (o : Outgoing) (cached : Bool) (new : Held) (t : Talk) (i : Invoking) (made : IsFor i o) (is : i.state ≡ states.AwaitingValidate) where
  pub greeted_comes : (end : End) → Greets {E = E} cached new t (Ok (Some end)) → MayCome i end.event
  greeted_comes end h = end_comes i o cached states.AwaitingValidate end t made is (h.1 o made.some)

  pub greeted_over : (j : Invoking) (end : End) (once : Once) → Greets {E = E} cached new t (Ok (Some end)) → Ends i j end once → Converses {E = E} o cached t i j (Ok once)
  greeted_over j end once h told =
      let row = row_over i j o cached states.AwaitingValidate end once t made is (h.1 o made.some) told in
      (row.0, row.1, unsent o t h.0, row.2)

pub converses_moved : (E : Type 0) (o : Outgoing) (cached : Bool) (t : Talk) (i j k : Invoking) (s : ClientState) (r : Result Once E) → j ≡ record i { state = s } → Converses {E = E} o cached t j k r → Converses {E = E} o cached t i k r
converses_moved E o cached t i j k s (Ok once) there h = (h.0, h.1, h.2, moved i j k s h.0 once there h.3)
converses_moved E o cached t i j k s (Err e) there h = h

-- ---- what the net tells of one

pub hung : (n0 n1 n2 : Option ToldNet) (l0 l1 l2 : Option Talk) (host : List ℕ) (port : ℕ) (t : Talk)
    → n1 ≡ told_after (connected host port false) n0 → IsNew n0 l0 → l1 ≡ adds l0 t → l2 ≡ l1 → n2 ≡ came_back (one_talk l2) n1 → n2 ≡ attempted (Some (host, port)) (Some t) n0
hung None n1 n2 l0 l1 l2 host port t one new talk shut two = two ∙ ap (came_back (one_talk l2)) one ∙ nothing (one_talk l2) where
  nothing : (x : Option (List Talk)) → came_back x None ≡ came_back (Some (t ∷ [])) None
  nothing None = refl
  nothing (Some x) = refl
hung (Some n) n1 n2 l0 l1 l2 host port t one new talk shut two =
    let told : l2 ≡ Some t = shut ∙ talk ∙ ap (λ (l : Option Talk). adds l t) new in
    two ∙ ap (came_back (one_talk l2)) one ∙ ap (λ (l : Option Talk). came_back (one_talk l) (told_after (connected host port false) (Some n))) told

pub has_talk : (E : Type 0) (o : Outgoing) (cached : Bool) (t : Talk) (i j k : Invoking) (r : Result Once E) → j ≡ record i { state = states.AwaitingValidate } → Converses {E = E} o cached t j k r → Attempts {E = E} o cached (Some t) i k r
has_talk E o cached t i j k (Ok once) there h = (h.0, (h.1, h.2), moved i j k states.AwaitingValidate h.0 once there h.3)
has_talk E o cached t i j k (Err e) there h = h

pub no_talk : (E : Type 0) (o : Outgoing) (cached : Bool) (i j : Invoking) (once : Once) → IsFor i o → i.state ≡ states.Connecting → Ends i j (record { event = events.ConnectFailed; outcome = outcomes.NetFailed }) once
    → Attempts {E = E} o cached None i j (Ok once)
no_talk E o cached i j once made is told =
    let is_over = over i j tries.NotConnected (record { event = events.ConnectFailed; outcome = outcomes.NetFailed }) once (at_state i o states.Connecting events.ConnectFailed made is) told in
    (tries.NotConnected, (refl, is_over.1), is_over.0)

pub hung_count : (f0 f1 f2 r s v w : ℕ) (b : Bool) → f1 ≡ f0 → f2 ≡ count_after f1 (has_failed r v) → r ≡ s → v ≡ w → has_failed s w ≡ b → f2 ≡ count_after f0 b
hung_count f0 f1 f2 r s v w b one two reads writes failed =
    two ∙ ap (λ (n : ℕ). count_after n (has_failed r v)) one ∙ ap (λ (n : ℕ). count_after f0 (has_failed n v)) reads ∙ ap (λ (n : ℕ). count_after f0 (has_failed s n)) writes ∙ ap (count_after f0) failed
