-- From the phases of an attempt to the whole of it.
use Rattle.std.proofs.Common.{◌≡◌, ℕ, ◌+◌, ◌<◌, ◌≤◌, ◌||◌, Bool, true, false, inl, inr, List, [], ◌∷◌, ◌++◌, length, take, drop, take-append-drop, take_all, Option, Some, Ok, Err, IsSome, refl, sym, ap, subst, ◌∙◌, append_assoc, append-nil, arith, zero-add}
use Rattle.std.specs.Prelude.{nat_lt}
use Rattle.std.proofs.lemmas.Bool.{eq-eqb, lt-ltb, le-ltb, cases_lt}
use Rattle.std.proofs.lemmas.List.{length-take-le}
use Rattle.ice_ports.specs.Failures.{count_after}
use Rattle.ice_ports.specs.Nets.{has_failed}
use Rattle.ice_ports.specs.declared.talk.Talk.{Talk}
use Rattle.ice_ports.specs.Talks.{gives, and_then}
use Rattle.ice_messages.specs.declared.message.Message.TheVariants.{Validate}
use Rattle.ice_messages.specs.Streams.{Stream}
use Rattle.ice_messages.specs.Framing.{Held}
use Rattle.retry_core.specs.declared.attempt.Attempt.{Attempt}
use Rattle.retry_core.specs.declared.attempt.Attempt.TheVariants as tries
use Rattle.retry_core.specs.declared.client_table.ClientEvent.{ClientEvent}
use Rattle.retry_core.specs.declared.client_table.ClientEvent.TheVariants as events
use Rattle.retry_core.specs.declared.client_table.ClientAction.{ClientAction}
use Rattle.retry_core.specs.declared.client_table.ClientAction.TheVariants as actions
use Rattle.retry_core.specs.declared.client_table.ClientNext.{ClientNext}
use Rattle.retry_core.specs.declared.client_table.ClientState.TheVariants as states
use Rattle.retry_core.specs.declared.client_table.ClientState.{ClientState}
use Rattle.retry_core.specs.declared.client_table.ClientNext.TheVariants.{Goes}
use Rattle.retry_core.specs.declared.client_table.ClientNext.TheVariants as nexts
use Rattle.retry_core.specs.ClientTable.{client_row, whole_row}
use Rattle.retry_core.specs.Client.{Invoking, row_of, MayCome, next_of, ended, action_of}
use Rattle.ice_client.specs.declared.outcome.Outcome.{Outcome}
use Rattle.ice_client.specs.declared.outcome.Outcome.TheVariants as outcomes
use Rattle.ice_client.specs.declared.outcome.End.{End}
use Rattle.ice_client.specs.declared.outcome.Once.{Once}
use Rattle.ice_client.specs.declared.outgoing.Outgoing.{Outgoing}
use Rattle.ice_client.specs.Rows.{Row, IsOrderly, IsGreeted}
use Rattle.talking.specs.Ends.{Begins}
use Rattle.ice_client.specs.Steps.{EndsBy, Awaits}
use Rattle.ice_client.specs.Asking.{IsFor, Ends, IsOver, Converses, Asks, RunsOut}
use Rattle.talking.specs.Writing.{writes_part}
use Rattle.talking.proofs.Adding.{or_twice}

-- ---- a row of the client's table, at a state that an equation tells

abbrev Leads : Invoking → ClientEvent → Option ClientNext → Type 0
Leads i e row = row_of i e ≡ row

pub at_state : (i : Invoking) (o : Outgoing) (s : ClientState) (e : ClientEvent) → IsFor i o → i.state ≡ s → row_of i e ≡ client_row o.replies (length o.bytes) s e
at_state i o s e made is = rw (made.replies, made.length_is, is) refl

comes : {A : Type 0} (o p : Option A) → o ≡ p → IsSome p → IsSome o
comes o p e h = rw e h

pub may_come : (i : Invoking) (o : Outgoing) (s : ClientState) (e : ClientEvent) → IsFor i o → i.state ≡ s → IsSome (client_row o.replies (length o.bytes) s e) → MayCome i e
may_come i o s e made is some = comes (row_of i e) (client_row o.replies (length o.bytes) s e) (at_state i o s e made is) some

-- the end of an attempt can come
pub end_comes : (i : Invoking) (o : Outgoing) (cached : Bool) (s : ClientState) (end : End) (t : Talk) → IsFor i o → i.state ≡ s → EndsBy o cached s end t → MayCome i end.event
end_comes i o cached s end t made is h = comes (row_of i end.event) (Some (nexts.Ends h.0)) (at_state i o s end.event made is ∙ h.1) refl

pub over : (i j : Invoking) (a : Attempt) (end : End) (once : Once) → row_of i end.event ≡ Some (nexts.Ends a) → Ends i j end once → IsOver i j a once × (once.outcome ≡ end.outcome)
over i j a end once leads h =
    ((h.0 ∙ ap (next_of i) leads, ap (λ (x : Once). x.action) h.1 ∙ ap (action_of i) leads), ap (λ (x : Once). x.outcome) h.1)

-- and then it has its row
pub row_over : (i j : Invoking) (o : Outgoing) (cached : Bool) (s : ClientState) (end : End) (once : Once) (t : Talk) → IsFor i o → i.state ≡ s → EndsBy o cached s end t → Ends i j end once
    → (a : Attempt) × Row o cached a once.outcome t × IsOver i j a once
row_over i j o cached s end once t made is h told =
    let is_over = over i j h.0 end once (at_state i o s end.event made is ∙ h.1) told in
    (h.0, subst (λ (x : Outcome). Row o cached h.0 x t) (sym is_over.1) h.2, is_over.0)

-- ---- the client's steps on the way

-- what another state changes of the end
pub moved : (i j k : Invoking) (s : ClientState) (a : Attempt) (once : Once) → j ≡ record i { state = s } → IsOver j k a once → IsOver i k a once
moved i j k s a once is h = (h.0 ∙ ap (λ (x : Invoking). ended x a) is, h.1 ∙ ap (λ (x : Invoking). action_of x (Some (nexts.Ends a))) is)

pub moved_for : (i j : Invoking) (o : Outgoing) (s : ClientState) → j ≡ record i { state = s } → IsFor i o → IsFor j o × (j.state ≡ s)
moved_for i j o s is made = rw is (record { idempotent = made.idempotent; replies = made.replies; length_is = made.length_is; some = made.some }, refl)

goes : (i j : Invoking) (e : ClientEvent) (s : ClientState) (action : ClientAction) → row_of i e ≡ Some (Goes s action) → j ≡ next_of i (row_of i e) → j ≡ record i { state = s }
goes i j e s action leads new = new ∙ ap (next_of i) leads

some_taken : (replies : Bool) (size n : ℕ) → n < size → client_row replies size (states.Sending 0) (events.Taken n) ≡ Some (Goes (states.Sending (0 + n)) actions.Send)
some_taken replies size n less = rw (zero-add n, lt-ltb n size less) refl

all_taken : (replies : Bool) (size n : ℕ) → n ≡ size → client_row replies size (states.Sending 0) (events.Taken n) ≡ Some (whole_row replies)
all_taken replies size n same = rw (zero-add n, le-ltb n size (omega (arith, same)), eq-eqb n size same) refl

-- so many bytes can have been taken
taken_some : (replies : Bool) (size n : ℕ) → n ≤ size → IsSome (client_row replies size (states.Sending 0) (events.Taken n))
taken_some replies size n most = elim (cases_lt n size) [
  | inl less ↦ comes _ _ (some_taken replies size n less) refl
  | inr more ↦ comes _ _ (all_taken replies size n (omega (arith, more, most))) refl
]

pub taken_comes : (i : Invoking) (o : Outgoing) (n : ℕ) → IsFor i o → i.state ≡ states.Sending 0 → n ≤ length o.bytes → MayCome i (events.Taken n)
taken_comes i o n made is most = may_come i o (states.Sending 0) (events.Taken n) made is (taken_some o.replies (length o.bytes) n most)

pub greeted_state : (i j : Invoking) (o : Outgoing) → IsFor i o → i.state ≡ states.AwaitingValidate → j ≡ next_of i (row_of i events.Validated) → j ≡ record i { state = states.Sending 0 }
greeted_state i j o made is new = goes i j events.Validated (states.Sending 0) actions.Send (at_state i o _ events.Validated made is) new

pub connected_state : (i j : Invoking) (o : Outgoing) → IsFor i o → i.state ≡ states.Connecting → j ≡ next_of i (row_of i events.Connected) → j ≡ record i { state = states.AwaitingValidate }
connected_state i j o made is new = goes i j events.Connected states.AwaitingValidate actions.AwaitValidate (at_state i o _ events.Connected made is) new

pub cut_state : (i j : Invoking) (o : Outgoing) (n : ℕ) → IsFor i o → i.state ≡ states.Sending 0 → n < length o.bytes → j ≡ next_of i (row_of i (events.Taken n)) → j ≡ record i { state = states.Sending (0 + n) }
cut_state i j o n made is less new =
    goes i j (events.Taken n) (states.Sending (0 + n)) actions.Send (at_state i o _ (events.Taken n) made is ∙ some_taken o.replies (length o.bytes) n less) new

whole : (i : Invoking) (o : Outgoing) (n : ℕ) (b : Bool) → IsFor i o → i.state ≡ states.Sending 0 → n ≡ length o.bytes → o.replies ≡ b → row_of i (events.Taken n) ≡ Some (whole_row b)
whole i o n b made is same asks = at_state i o _ (events.Taken n) made is ∙ all_taken o.replies (length o.bytes) n same ∙ ap (λ (c : Bool). Some (whole_row c)) asks

pub whole_state : (i j : Invoking) (o : Outgoing) (n : ℕ) → IsFor i o → i.state ≡ states.Sending 0 → n ≡ length o.bytes → o.replies ≡ true → j ≡ next_of i (row_of i (events.Taken n)) → j ≡ record i { state = states.AwaitingReply }
whole_state i j o n made is same asks new = goes i j (events.Taken n) states.AwaitingReply actions.AwaitReply (whole i o n true made is same asks) new

pub sent_over : (i j : Invoking) (o : Outgoing) (n : ℕ) (action : ClientAction) → IsFor i o → i.state ≡ states.Sending 0 → n ≡ length o.bytes → o.replies ≡ false
    → j ≡ next_of i (row_of i (events.Taken n)) → action ≡ action_of i (row_of i (events.Taken n)) → IsOver i j tries.Sent (record { action = action; outcome = outcomes.Sent })
sent_over i j o n action made is same asks new does =
    let leads = whole i o n false made is same asks in
    (new ∙ ap (next_of i) leads, does ∙ ap (action_of i) leads)

-- ---- behind a validate

pub begun : (given held got : List ℕ) → Stream given (Validate ∷ []) held → Begins (given ++ got) Validate
begun given held got greeted = (greeted.1 ++ got, (greeted.0, greeted.1 ++ got, ap (λ (z : List ℕ). z ++ got) greeted.2 ∙ append_assoc greeted.0 greeted.1 got, greeted.3, refl))

-- the bytes taken are a prefix
pub orderly_behind : (o : Outgoing) (s t : Talk) (held rest : List ℕ) → s.taken ≡ [] → Stream s.given (Validate ∷ []) held → o.bytes ≡ t.taken ++ rest → IsOrderly o (and_then s t)
orderly_behind o s t held rest none greeted parts = ((rest, parts ∙ ap (λ (z : List ℕ). z ++ (t.taken ++ rest)) (sym none) ∙ sym (append_assoc s.taken t.taken rest)), inr (begun s.given held t.given greeted))

pub unsent : (o : Outgoing) (t : Talk) → t.taken ≡ [] → IsOrderly o t
unsent o t none = ((o.bytes, rw none refl), inl none)

-- memory ran out before the message
pub ran_early : (o : Outgoing) (t : Talk) → t ≡ gives t.given → RunsOut o t
ran_early o t is = (ap (λ (z : Talk). z.ended) is, ap (λ (z : Talk). z.failed) is, inl (ap (λ (z : Talk). z.taken) is))

-- the message was cut
pub cut_ends : (o : Outgoing) (cached : Bool) (given : List ℕ) (n : ℕ) → n < length o.bytes → IsGreeted given
    → EndsBy o cached (states.Sending (0 + n)) (record { event = events.Lost; outcome = outcomes.NetFailed }) (and_then (gives given) (writes_part o.bytes n))
cut_ends o cached given n less greeted =
    let short : length (take n o.bytes) < length o.bytes = omega (arith, less, length-take-le n o.bytes (omega (arith, less))) in
    (tries.NotWhole, refl, (short, inl (subst IsGreeted (sym (append-nil given)) greeted, refl), inl (refl, lt-ltb n (length o.bytes) less)))

-- it was taken whole, and asks for no reply
pub sent_row : (o : Outgoing) (cached : Bool) (given : List ℕ) (n : ℕ) → n ≡ length o.bytes → o.replies ≡ false → IsGreeted given
    → Row o cached tries.Sent outcomes.Sent (and_then (gives given) (writes_part o.bytes n))
sent_row o cached given n same asks greeted =
    (take_all n o.bytes (omega (arith, same)), asks, subst IsGreeted (sym (append-nil given)) greeted, refl, le-ltb n (length o.bytes) (omega (arith, same)), refl)

-- ---- failures are counted

pub count_one : (b : Bool) → nat_lt 0 (count_after 0 b) ≡ b
count_one true = refl
count_one false = refl

pub same_zero : (n : ℕ) (b : Bool) → n ≡ count_after 0 b → b ≡ false → n ≡ 0
same_zero n b e is = rw (e, is) refl

-- what failed in one of two parts
pub count_both : (r w : ℕ) (x y : Bool) → r ≡ count_after 0 y → w ≡ count_after 0 x → has_failed r w ≡ (x || y)
count_both r w x y one two = ap (λ (n : ℕ). has_failed n w) one ∙ ap (λ (n : ℕ). has_failed (count_after 0 y) n) two ∙ both x y where
  both : (x y : Bool) → has_failed (count_after 0 y) (count_after 0 x) ≡ (x || y)
  both true true = refl
  both true false = refl
  both false true = refl
  both false false = refl

pub count_writes : (r w : ℕ) (x : Bool) → r ≡ 0 → w ≡ count_after 0 x → has_failed r w ≡ x
count_writes r w x one two = ap (λ (n : ℕ). has_failed n w) one ∙ ap (λ (n : ℕ). has_failed 0 n) two ∙ count_one x

pub count_reads : (r w : ℕ) (y : Bool) → r ≡ count_after 0 y → w ≡ 0 → has_failed r w ≡ y
count_reads r w y one two = ap (λ (n : ℕ). has_failed n w) one ∙ ap (λ (n : ℕ). has_failed (count_after 0 y) n) two ∙ alone y where
  alone : (y : Bool) → has_failed (count_after 0 y) 0 ≡ y
  alone true = refl
  alone false = refl

-- ---- the message was asked, behind a validate

twice : (a b c : Talk) → and_then (and_then a b) c ≡ and_then a (and_then b c)
twice a b c = rw (append_assoc a.given b.given c.given, append_assoc a.taken b.taken c.taken, or_twice a.ended b.ended c.ended, or_twice a.failed b.failed c.failed) refl

awaited_ends : (E : Type 0) (o : Outgoing) (cached : Bool) (old : Held) (given : List ℕ) (n : ℕ) (t : Talk) (end : End) → n ≡ length o.bytes → o.replies ≡ true → Stream given (Validate ∷ []) old.bytes
    → Awaits {E = E} cached old t (Ok end) → EndsBy o cached states.AwaitingReply end (and_then (gives given) (and_then (writes_part o.bytes n) t))
awaited_ends E o cached old given n t end same asks greeted h =
    subst (EndsBy o cached states.AwaitingReply end) (twice (gives given) (writes_part o.bytes n) t)
    (h.2 o (and_then (gives given) (writes_part o.bytes n)) (take_all n o.bytes (omega (arith, same))) asks refl (le-ltb n (length o.bytes) (omega (arith, same)))
    (subst (λ (z : List ℕ). Stream z (Validate ∷ []) old.bytes) (sym (append-nil given)) greeted))

module _ (E : Type 0) (o : Outgoing) (cached : Bool) (old : Held) (n : ℕ) (i j : Invoking) (made : IsFor i o) (is : i.state ≡ states.Sending 0) (new : j ≡ next_of i (row_of i (events.Taken n))) where
  pub asks_cut : (k : Invoking) (once : Once) → n < length o.bytes → Ends j k (record { event = events.Lost; outcome = outcomes.NetFailed }) once → Asks {E = E} o cached old (writes_part o.bytes n) i k (Ok once)
  asks_cut k once less told s silent greeted once_read =
      let there = cut_state i j o n made is less new in
      let on = moved_for i j o (states.Sending (0 + n)) there made in
      let row = row_over j k o cached (states.Sending (0 + n)) (record { event = events.Lost; outcome = outcomes.NetFailed }) once (and_then (gives s.given) (writes_part o.bytes n)) on.0 on.1
      (cut_ends o cached s.given n less once_read) told in
      subst (λ (z : Talk). Converses {E = E} o cached (and_then z (writes_part o.bytes n)) i k (Ok once)) (sym silent) (
        row.0,
        row.1,
        orderly_behind o (gives s.given) (writes_part o.bytes n) old.bytes (drop n o.bytes) refl greeted (sym (take-append-drop n o.bytes)),
        moved i j k (states.Sending (0 + n)) row.0 once there row.2,
      )

  pub asks_none : (action : ClientAction) → n ≡ length o.bytes → o.replies ≡ false → action ≡ action_of i (row_of i (events.Taken n))
      → Asks {E = E} o cached old (writes_part o.bytes n) i j (Ok (record { action = action; outcome = outcomes.Sent }))
  asks_none action same asks does s silent greeted once_read =
      subst (λ (z : Talk). Converses {E = E} o cached (and_then z (writes_part o.bytes n)) i j (Ok (record { action = action; outcome = outcomes.Sent }))) (sym silent) (
        tries.Sent,
        sent_row o cached s.given n same asks once_read,
        orderly_behind o (gives s.given) (writes_part o.bytes n) old.bytes (drop n o.bytes) refl greeted (sym (take-append-drop n o.bytes)),
        sent_over i j o n action made is same asks new does,
      )

  orderly_whole : (given : List ℕ) (t : Talk) → n ≡ length o.bytes → t.taken ≡ [] → Stream given (Validate ∷ []) old.bytes → IsOrderly o (and_then (gives given) (and_then (writes_part o.bytes n) t))
  orderly_whole given t same none greeted =
      orderly_behind o (gives given) (and_then (writes_part o.bytes n) t) old.bytes [] refl greeted
      (sym (append-nil (take n o.bytes ++ t.taken) ∙ ap (λ (z : List ℕ). take n o.bytes ++ z) none ∙ append-nil (take n o.bytes) ∙ take_all n o.bytes (omega (arith, same))))

  pub asks_reply : (k : Invoking) (t : Talk) (end : End) (once : Once) → n ≡ length o.bytes → o.replies ≡ true → Awaits {E = E} cached old t (Ok end) → Ends j k end once
      → Asks {E = E} o cached old (and_then (writes_part o.bytes n) t) i k (Ok once)
  asks_reply k t end once same asks h told s silent greeted once_read =
      let there = whole_state i j o n made is same asks new in
      let on = moved_for i j o states.AwaitingReply there made in
      let row = row_over j k o cached states.AwaitingReply end once (and_then (gives s.given) (and_then (writes_part o.bytes n) t)) on.0 on.1 (awaited_ends E o cached old s.given n t end same asks greeted h) told in
      subst (λ (z : Talk). Converses {E = E} o cached (and_then z (and_then (writes_part o.bytes n) t)) i k (Ok once)) (sym silent) (
        row.0,
        row.1,
        orderly_whole s.given t same h.0 greeted,
        moved i j k states.AwaitingReply row.0 once there row.2,
      )

  -- the end of the wait can come
  pub reply_comes : (t : Talk) (end : End) → n ≡ length o.bytes → o.replies ≡ true → Awaits {E = E} cached old t (Ok end) → MayCome j end.event
  reply_comes t end same asks h =
      let there = whole_state i j o n made is same asks new in
      let on = moved_for i j o states.AwaitingReply there made in
      may_come j o states.AwaitingReply end.event on.0 on.1 (h.1 o.replies (length o.bytes))

  pub asks_starved : (e : E) (k : Invoking) (t : Talk) → n ≡ length o.bytes → o.replies ≡ true → t ≡ gives t.given → Asks {E = E} o cached old (and_then (writes_part o.bytes n) t) i k (Err e)
  asks_starved e k t same asks is s silent greeted once_read =
      subst (λ (z : Talk). RunsOut o (and_then z (and_then (writes_part o.bytes n) t))) (sym silent)
      (subst (λ (z : Talk). RunsOut o (and_then (gives s.given) (and_then (writes_part o.bytes n) z))) (sym is) (
        refl,
        ap (λ (b : Bool). b || false) (le-ltb n (length o.bytes) (omega (arith, same))),
        inr (append-nil (take n o.bytes) ∙ take_all n o.bytes (omega (arith, same)), asks, begun s.given old.bytes t.given greeted),
      ))
