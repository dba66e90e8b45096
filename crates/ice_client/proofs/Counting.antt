-- A failure of the net that is the outcome was counted.
use Rattle.std.proofs.Common.{◌≡◌, ℕ, ◌-◌, ◌^◌, ◌≤◌, min, Bool, true, false, inl, inr, List, [], ◌∷◌, ◌++◌, Option, None, Some, refl, sym, ap, subst, ◌∙◌, arith}
use Rattle.ice_types.specs.declared.proxy.Endpoint.{Endpoint}
use Rattle.ice_ports.specs.Failures.{count_after, one_more}
use Rattle.ice_ports.specs.Nets.{ToldNet}
use Rattle.ice_ports.specs.declared.talk.Talk.{Talk}
use Rattle.retry_core.specs.declared.attempt.Attempt.{Attempt}
use Rattle.retry_core.specs.declared.attempt.Attempt.TheVariants as tries
use Rattle.ice_client.specs.declared.outcome.Outcome.TheVariants as outcomes
use Rattle.ice_client.specs.declared.outgoing.Outgoing.{Outgoing}
use Rattle.ice_client.specs.Rows.{IsLoss}
use Rattle.ice_client.specs.Attempted.{is_failure}
use Rattle.ice_client.specs.Asking.{HasRow}
use Rattle.ice_client.specs.ClientDid.{Tried, Ended, Made, Rises, failures_after}
use Rattle.ice_client.proofs.Delivering.{failures_more}

lost_failed : (t : Talk) → IsLoss outcomes.NetFailed t → t.failed ≡ true
lost_failed t (inl h) = h.1
lost_failed t (inr h) = absurd (let z : outcomes.NetFailed ≡ outcomes.Ended = h.0 in cc)

failed : (o : Outgoing) (cached : Bool) (a : Attempt) (talk : Option Talk) → HasRow o cached a outcomes.NetFailed talk → is_failure talk ≡ true
failed o cached a None h = refl
failed o cached tries.NotConnected (Some t) h = absurd h.0
failed o cached tries.NotWhole (Some t) h = lost_failed t h.0.2
failed o cached tries.Sent (Some t) h = absurd (let z : outcomes.NetFailed ≡ outcomes.Sent = h.0.5 in cc)
failed o cached tries.Lost (Some t) h = lost_failed t h.0.4
failed o cached tries.Closed (Some t) h = absurd (let z : outcomes.NetFailed ≡ outcomes.Closed = h.0.2 in cc)
failed o cached tries.Stale (Some t) h = absurd (let z : outcomes.NetFailed ≡ outcomes.Replied h.0.0 = h.0.2 in cc)
failed o cached tries.Broke (Some t) h = absurd (let z : outcomes.NetFailed ≡ outcomes.Broke h.0.0 = h.0.2 in cc)
failed o cached tries.Replied (Some t) h = absurd (let z : outcomes.NetFailed ≡ outcomes.Replied h.0.0 = h.0.2 in cc)

Keeps : ℕ → ℕ → Type 0
Keeps before after = min before (2 ^ 64 - 1) ≤ after

count_keeps : (n : ℕ) (b : Bool) → Keeps n (count_after n b)
unfolding Keeps
count_keeps n true = omega arith
count_keeps n false = omega arith

keeps_then : (a b c : ℕ) → Keeps a b → Keeps b c → Keeps a c
unfolding Keeps
keeps_then a b c one two = omega (arith, one, two)

all_keep : (ts : List Tried) (n : ℕ) → Keeps n (failures_after ts n)
unfolding Keeps
all_keep [] n = omega arith
all_keep (t ∷ ts) n = keeps_then n (count_after n (is_failure t.talk)) (failures_after ts (count_after n (is_failure t.talk))) (count_keeps n (is_failure t.talk)) (all_keep ts (count_after n (is_failure t.talk)))

keeps_rises : (a b : ℕ) → Keeps a b → Rises a (one_more b)
unfolding Keeps
keeps_rises a b one = omega (arith, one)

pub rises : (o : Outgoing) (endpoints : List Endpoint) (retries : ℕ) (tried : List Tried) (n0 n1 : Option ToldNet) (f0 f1 : ℕ) → Made endpoints tried n0 n1 f0 f1 → Ended o retries tried (Some outcomes.NetFailed) → Rises f0 f1
rises o endpoints retries tried n0 n1 f0 f1 made h =
    let all : f1 ≡ failures_after (h.0 ++ h.1 ∷ []) f0 = made.failures ∙ ap (λ (ts : List Tried). failures_after ts f0) h.2 in
    let last : f1 ≡ one_more (failures_after h.0 f0) = all ∙ failures_more h.0 h.1 f0 ∙ ap (count_after (failures_after h.0 f0)) (failed o h.1.cached h.1.attempt h.1.talk h.4) in
    subst (Rises f0) (sym last) (keeps_rises f0 (failures_after h.0 f0) (all_keep h.0 f0))
