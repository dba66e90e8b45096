-- Where the last attempt at a message wins, it does not stop the call.
use Rattle.std.proofs.Common.{◌≡◌, ◌⊎◌, ℕ, List, [], ◌∷◌, ◌++◌, Bool, true, false, Option, None, Some, Ok, Err, refl, sym, ap, subst, ◌∙◌, inl, inr}
use Rattle.std.proofs.lemmas.Bool.{false≢true}
use Rattle.ice_encoding.specs.Flags.{all_slices}
use Rattle.ice_encoding.proofs.Graphs.{numbered_only}
use Rattle.ice_ports.specs.declared.talk.Talk.{Talk}
use Rattle.ice_encoding.specs.Parts.{Each}
use Rattle.ice_messages.specs.declared.message.Answer.{Answer}
use Rattle.ice_messages.specs.declared.message.Answer.TheVariants as answers
use Rattle.ice_client.specs.declared.outgoing.Outgoing.{Outgoing}
use Rattle.ice_client.specs.declared.outcome.Outcome.{Outcome}
use Rattle.ice_client.specs.declared.outcome.Outcome.TheVariants as outcomes
use Rattle.ice_client.specs.Rows.{Row, is_stale}
use Rattle.ice_client.specs.Asking.{HasRow}
use Rattle.ice_client.specs.ClientDid.{Tried, Ended, IsFollowed, had}
use Rattle.ice_client.proofs.OneRow.{one_row, one_answer}
use Rattle.retry_core.specs.declared.attempt.Attempt.{Attempt}
use Rattle.retry_core.specs.declared.attempt.Attempt.TheVariants as tries
use Rattle.retry_core.specs.Retries.{may_follow}
use Rattle.locator.specs.declared.through.Through.{Through}
use Rattle.locator.specs.declared.through.Through.TheVariants.{Invoked, NotLocated, LocatorFailed}
use Rattle.locator.specs.Caches.{Kept}
use Rattle.locator.specs.Rounds.{Round}
use Rattle.locator.specs.Through.{IsFailure, tried_of}
use Rattle.call_command.specs.declared.stop.Stop.TheVariants as stops
use Rattle.call_command.specs.declared.stop.Reason.{Reason}
use Rattle.call_command.specs.Planning.{Expected, Plan}
use Rattle.call_command.specs.Replies.{HasReason, IsLine, IsReason}
use Rattle.call_command.specs.declared.stop.Stop.{Stop}
use Rattle.call_command.specs.Rounds.{NetSeen, SinkSeen, Delivered, Delivery, IsUsed, StopsAt, rounds_of}
use Rattle.call_command.specs.Laws.{IsCaused, IsNotWon, IsWon, StopsForCause}

-- ---- a success has no reason

err_ok : {X E : Type 0} {x : X} {e : E} → Err e ≡ Ok x → ⊥
err_ok e = cc

line_or_reason : (e : Expected) (outcome : Outcome) (line : List ℕ) (reason : Reason) → IsLine e outcome line → IsReason e outcome reason → ⊥
line_or_reason e (outcomes.Replied (answers.Done body)) line reason (g, spelled, typed, is) (fault, broken, why) =
    err_ok (sym broken ∙ numbered_only e.tables all_slices e.results body g spelled)
line_or_reason e (outcomes.Replied (answers.Raised body)) line reason won why = won
line_or_reason e (outcomes.Replied (answers.Missing status i f o)) line reason won why = won
line_or_reason e (outcomes.Replied (answers.Unknown status what)) line reason won why = won
line_or_reason e outcomes.Sent line reason won why = why
line_or_reason e outcomes.NetFailed line reason won why = won
line_or_reason e outcomes.Ended line reason won why = won
line_or_reason e outcomes.Closed line reason won why = won
line_or_reason e (outcomes.Broke fault) line reason won why = won
line_or_reason e outcomes.NoEndpoint line reason won why = won

-- ---- what an attempt that succeeds came to

module _ (e : Expected) (o : Outgoing) (cached : Bool) (t : Talk) (line : List ℕ) where
  no_loss : (outcome : Outcome) → ((outcome ≡ outcomes.NetFailed) × (t.failed ≡ true)) ⊎ ((outcome ≡ outcomes.Ended) × (t.ended ≡ true)) → IsLine e outcome line → ⊥
  no_loss outcome (inl lost) tells = subst (λ (x : Outcome). IsLine e x line) lost.0 tells
  no_loss outcome (inr lost) tells = subst (λ (x : Outcome). IsLine e x line) lost.0 tells

  -- over one talk a success is the only outcome
  one_outcome : (a : Attempt) (won other : Outcome) → Row o cached a won t → IsLine e won line → Row o cached a other t → won ≡ other
  one_outcome tries.NotConnected won other p tells q = absurd p
  one_outcome tries.NotWhole won other p tells q = absurd (no_loss won p.2 tells)
  one_outcome tries.Sent won other p tells q = p.5 ∙ sym q.5
  one_outcome tries.Lost won other (ms, rest, reads, ends, loss) tells q = absurd (no_loss won loss tells)
  one_outcome tries.Closed won other (ms, meets, is) tells q = absurd (subst (λ (x : Outcome). IsLine e x line) is tells)
  one_outcome tries.Stale won other (x, replied, is) tells (y, replies, so) = is ∙ ap outcomes.Replied (one_answer o cached t x y true true replied replies) ∙ sym so
  one_outcome tries.Broke won other (fault, breaks, is) tells q = absurd (subst (λ (x : Outcome). IsLine e x line) is tells)
  one_outcome tries.Replied won other (x, replied, is) tells (y, replies, so) = is ∙ ap outcomes.Replied (one_answer o cached t x y false false replied replies) ∙ sym so

same_outcome : (e : Expected) (o : Outgoing) (cached : Bool) (talk : Option Talk) (a b : Attempt) (won other : Outcome) (line : List ℕ)
    → HasRow o cached a won talk → IsLine e won line → HasRow o cached b other talk → won ≡ other
same_outcome e o cached None a b won other line p tells q = absurd (subst (λ (x : Outcome). IsLine e x line) p.1 tells)
same_outcome e o cached (Some t) a b won other line p tells q =
    one_outcome e o cached t line a won other p.0 tells (subst (λ (x : Attempt). Row o cached x other t) (sym (one_row o cached t a b won other p.0 q.0)) q.0)

-- ---- the last attempt

-- the last of a list is one
one_last : (xs ys : List Tried) (x y : Tried) → xs ++ x ∷ [] ≡ ys ++ y ∷ [] → x ≡ y
one_last [] [] x y e = cc e
one_last [] (z ∷ []) x y e = cc e
one_last [] (z ∷ w ∷ ys) x y e = cc e
one_last (z ∷ []) [] x y e = cc e
one_last (z ∷ w ∷ xs) [] x y e = cc e
one_last (v ∷ xs) (w ∷ ys) x y e = one_last xs ys x y (cc e)

-- one behind others is one of them
last_of : (P : Tried → Type 0) (xs : List Tried) (x : Tried) → Each P (xs ++ x ∷ []) → P x
last_of P [] x each = each.0
last_of P (y ∷ ys) x each = last_of P ys x each.1

-- what came of a message that won has a line
won_so : (e : Expected) (o : Outgoing) (tried : List Tried) (retries : ℕ) (outcome : Outcome) → IsWon e o tried → Ended o retries tried (Some outcome) → (line : List ℕ) × IsLine e outcome line
won_so e o tried retries outcome (before, last, is, (attempt, won, line, row, tells)) (front, end, so, followed, came, short, full) =
    let same : last ≡ end = one_last before front last end (sym is ∙ so) in
    let here = subst (λ (t : Tried). HasRow o t.cached attempt won t.talk) same row in
    (line, subst (λ (x : Outcome). IsLine e x line) (same_outcome e o end.cached end.talk attempt end.attempt won outcome line here tells came) tells)

-- ---- what may be followed did not win

module _ (e : Expected) (o : Outgoing) (cached : Bool) (line : List ℕ) where
  -- the place is stale, or the reply is no success
  stale_lost : (here : Bool) (answer : Answer) → is_stale here answer ≡ true → IsLine e (outcomes.Replied answer) line → ⊥
  stale_lost true (answers.Done body) stale tells = false≢true stale
  stale_lost false (answers.Done body) stale tells = false≢true stale
  stale_lost here (answers.Raised body) stale tells = tells
  stale_lost here (answers.Missing status i f op) stale tells = tells
  stale_lost here (answers.Unknown status what) stale tells = tells

  followed_lost : (idempotent : Bool) (a : Attempt) (outcome : Outcome) (talk : Option Talk) → may_follow idempotent a ≡ true → HasRow o cached a outcome talk → IsLine e outcome line → ⊥
  followed_lost idempotent a outcome None may p tells = subst (λ (x : Outcome). IsLine e x line) p.1 tells
  followed_lost idempotent tries.NotConnected outcome (Some t) may p tells = p.0
  followed_lost idempotent tries.NotWhole outcome (Some t) may p tells = no_loss e o cached t line outcome p.0.2 tells
  followed_lost idempotent tries.Sent outcome (Some t) may p tells = false≢true may
  followed_lost idempotent tries.Lost outcome (Some t) may p tells = no_loss e o cached t line outcome p.0.4 tells
  followed_lost idempotent tries.Closed outcome (Some t) may p tells = subst (λ (x : Outcome). IsLine e x line) p.0.2 tells
  followed_lost idempotent tries.Stale outcome (Some t) may p tells = stale_lost cached p.0.0 p.0.1.2 (subst (λ (x : Outcome). IsLine e x line) p.0.2 tells)
  followed_lost idempotent tries.Broke outcome (Some t) may p tells = false≢true may
  followed_lost idempotent tries.Replied outcome (Some t) may p tells = false≢true may

none_won : (e : Expected) (o : Outgoing) (tried : List Tried) → Each (IsFollowed o) tried → IsWon e o tried → ⊥
none_won e o tried each (before, last, is, (attempt, won, line, row, tells)) =
    let followed = last_of (IsFollowed o) before last (subst (λ (ts : List Tried). Each (IsFollowed o) ts) is each) in
    let same : won ≡ followed.0.0 = same_outcome e o last.cached last.talk attempt last.attempt won followed.0.0 line row tells followed.0.1 in
    followed_lost e o last.cached line o.idempotent last.attempt followed.0.0 last.talk followed.1 followed.0.1 (subst (λ (x : Outcome). IsLine e x line) same tells)

-- ---- what came of a message whose last attempt won has a line

module _ (e : Expected) (o : Outgoing) (tried : List Tried) (retries : ℕ) where
  line_of : (outcome : Outcome) → Ended o retries tried (had outcome) → IsWon e o tried → (line : List ℕ) × IsLine e outcome line
  line_of (outcomes.Replied answer) ended won = won_so e o tried retries (outcomes.Replied answer) won ended
  line_of outcomes.Sent ended won = won_so e o tried retries outcomes.Sent won ended
  line_of outcomes.NetFailed ended won = won_so e o tried retries outcomes.NetFailed won ended
  line_of outcomes.Ended ended won = won_so e o tried retries outcomes.Ended won ended
  line_of outcomes.Closed ended won = won_so e o tried retries outcomes.Closed won ended
  line_of (outcomes.Broke fault) ended won = won_so e o tried retries (outcomes.Broke fault) won ended
  line_of outcomes.NoEndpoint ended won = absurd (none_won e o tried ended.0 won)

module _ (plan : Plan) (places : Kept) (last : List Round) (later : Kept) where
  not_failed : (through : Through) → Delivered plan places last later through → IsFailure through → IsNotWon plan places last
  not_failed (Invoked r) went fails = (
    Invoked r,
    later,
    went,
    λ won. let told = line_of plan.expected went.0.2.did.outgoing (tried_of went.0.0) plan.retries r.outcome went.0.2.did.ended won in subst (λ (x : Outcome). IsLine plan.expected x told.0) fails told.1,
  )
  not_failed NotLocated went fails = absurd fails
  not_failed (LocatorFailed r) went fails = (LocatorFailed r, later, went, none_won plan.expected went.0.1.did.outgoing (tried_of went.0.0) went.0.1.did.ended.0)

  not_ended : (through : Through) (reason : Reason) → Delivered plan places last later through → HasReason plan through reason → IsNotWon plan places last
  not_ended (Invoked r) reason went why = (
    Invoked r,
    later,
    went,
    λ won. let told = line_of plan.expected went.0.2.did.outgoing (tried_of went.0.0) plan.retries r.outcome went.0.2.did.ended won in line_or_reason plan.expected r.outcome told.0 reason told.1 why,
  )
  not_ended NotLocated reason went why = (NotLocated, later, went, none_won plan.expected went.0.1.did.outgoing (tried_of went.0.0) went.0.1.did.ended.0)
  not_ended (LocatorFailed r) reason went why = (LocatorFailed r, later, went, none_won plan.expected went.0.1.did.outgoing (tried_of went.0.0) went.0.1.did.ended.0)

by_cause : (plan : Plan) (before after : SinkSeen) (net now : NetSeen) (stop : Stop) (ds : List Delivery) (places : Kept) (last : List Round) → IsUsed (rounds_of ds ++ last) net now
    → StopsAt plan ds places last before after net now stop → IsCaused plan before after net now stop
by_cause plan before after net now stops.Memory ds places last used h = inl refl
by_cause plan before after net now stops.WriteFailed ds places last used (through, later, line, did, tells, each, prefix, failed) = inr (inl (refl, failed))
by_cause plan before after net now stops.NetFailed ds places last used (through, later, did, fails, printed, rises) =
    inr (inr (ds, places, last, printed.succeeded, used, not_failed plan places last later through did fails))
by_cause plan before after net now (stops.Ended reason) ds places last used (through, later, did, why, printed) =
    inr (inr (ds, places, last, printed.succeeded, used, not_ended plan places last later through reason did why))

pub stops_for_cause : StopsForCause
stops_for_cause plan before after net now stop h = by_cause plan before after net now stop h.deliveries h.places h.last h.used h.stopped
