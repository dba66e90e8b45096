-- A talk has one row.
use Rattle.std.proofs.Common.{◌≡◌, ℕ, pos, ◌<◌, ◌≤◌, ◌⊎◌, inl, inr, Bool, true, false, List, [], ◌∷◌, length, Option, None, Some, Result, Ok, Err, refl, sym, ap, subst, ◌∙◌, arith, if◌then◌else◌}
use Rattle.std.proofs.lemmas.Bool.{lt-ltb}
use Rattle.ice_prims.specs.declared.fault.Fault.{Fault}
use Rattle.ice_prims.specs.Rest.{Rest}
use Rattle.ice_ports.specs.declared.talk.Talk.{Talk}
use Rattle.ice_messages.specs.declared.ends.TheConstants.{MOST_MESSAGES}
use Rattle.ice_messages.specs.declared.message.Answer.{Answer}
use Rattle.ice_messages.specs.declared.message.Message.{Message}
use Rattle.ice_messages.specs.declared.message.Message.TheVariants.{Request, Batch, Reply, Validate, Close}
use Rattle.ice_messages.specs.Streams.{Stream, StreamEnds, next_at}
use Rattle.ice_messages.specs.Ends.{client_fault}
use Rattle.ice_messages.proofs.Runs.{one_end, one_stream}
use Rattle.ice_messages.proofs.Streams.{messages_apart, next_message, front_next}
use Rattle.retry_core.specs.declared.attempt.Attempt.{Attempt}
use Rattle.retry_core.specs.declared.attempt.Attempt.TheVariants as tries
use Rattle.ice_client.specs.declared.outcome.Outcome.{Outcome}
use Rattle.ice_client.specs.declared.outgoing.Outgoing.{Outgoing}
use Rattle.ice_client.specs.Rows.{IsGreeted, AreValidates, Reads, awaited, Meets, is_stale, Row}
use Rattle.talking.specs.Ends.{Begins}
use Rattle.ice_client.specs.Laws.{TalksHaveOneRow, RepliesHaveOneAnswer}

-- ---- what stands behind validates

abbrev Next : Type 0
Next = Result (Option (Message × Rest)) Fault

abbrev answer : Option (Message × Rest) → Next
answer x = Ok x

abbrev faulty : Fault → Next
faulty f = Err f

no_message : {x : Message × Rest} → answer None ≡ answer (Some x) → ⊥
no_message e = cc

no_fault : {f : Fault} {x : Option (Message × Rest)} → faulty f ≡ answer x → ⊥
no_fault e = cc

-- where the messages end no message stands
ends_alone : (rest : List ℕ) (end : Option Fault) (m : Message) → StreamEnds rest end → Begins rest m → ⊥
ends_alone rest None m h begins = absurd (no_message (sym (front_next rest h) ∙ ap next_at begins.1.2 ∙ next_message begins.1.0 begins.1.1 m begins.1.3))
ends_alone rest (Some fault) m h begins = absurd (no_fault (sym h ∙ ap next_at begins.1.2 ∙ next_message begins.1.0 begins.1.1 m begins.1.3))

-- one message begins the bytes
begins_one : (bytes : List ℕ) (m n : Message) → Begins bytes m → Begins bytes n → m ≡ n
begins_one bytes m n one two = (messages_apart one.1.0 two.1.0 one.1.1 two.1.1 m n one.1.3 two.1.3 (sym one.1.2 ∙ two.1.2)).0

-- the first message of a stream begins it
first_begins : (bytes rest : List ℕ) (m : Message) (ms : List Message) → Stream bytes (m ∷ ms) rest → Begins bytes m
first_begins bytes rest m ms h = (h.1, (h.0, h.1, h.2, h.3, refl))

-- two messages, each behind validates
Either_way : (ms ns : List Message) (m n : Message) → Type 0
Either_way ms ns m n = ((ms ≡ ns) × (m ≡ n)) ⊎ (((length ms < length ns) × (m ≡ Validate)) ⊎ ((length ns < length ms) × (n ≡ Validate)))

later : (v w : Message) (ms ns : List Message) (m n : Message) → v ≡ w → Either_way ms ns m n → Either_way (v ∷ ms) (w ∷ ns) m n
unfolding Either_way
later v w ms ns m n same (inl h) = inl (rw (same, h.0) refl, h.1)
later v w ms ns m n same (inr (inl h)) = inr (inl (omega (arith, h.0), h.1))
later v w ms ns m n same (inr (inr h)) = inr (inr (omega (arith, h.0), h.1))

meet_apart : (ms ns : List Message) (bytes a b : List ℕ) (m n : Message) → AreValidates ms → AreValidates ns → Stream bytes ms a → Stream bytes ns b → Begins a m → Begins b n → Either_way ms ns m n
unfolding Either_way
meet_apart [] [] bytes a b m n vs ws one two p q =
    inl (refl, begins_one bytes m n (subst (λ (z : List ℕ). Begins z m) (sym one) p) (subst (λ (z : List ℕ). Begins z n) (sym two) q))
meet_apart [] (w ∷ ns) bytes a b m n vs ws one two p q =
    inr (inl (omega arith, begins_one bytes m w (subst (λ (z : List ℕ). Begins z m) (sym one) p) (first_begins bytes b w ns two) ∙ ws.0))
meet_apart (v ∷ ms) [] bytes a b m n vs ws one two p q =
    inr (inr (omega arith, begins_one bytes n v (subst (λ (z : List ℕ). Begins z n) (sym two) q) (first_begins bytes a v ms one) ∙ vs.0))
meet_apart (v ∷ ms) (w ∷ ns) bytes a b m n vs ws one two p q =
    let same = messages_apart one.0 two.0 one.1 two.1 v w one.3 two.3 (sym one.2 ∙ two.2) in
    later v w ms ns m n same.0 (meet_apart ms ns two.1 a b m n vs.1 ws.1 (subst (λ (z : List ℕ). Stream z ms a) same.1 one.4) two.4 p q)

-- validates up to an end, and a message behind some validates
end_apart : (ms ns : List Message) (bytes a b : List ℕ) (e : Option Fault) (n : Message) → AreValidates ms → Stream bytes ms a → StreamEnds a e → Stream bytes ns b → Begins b n → (length ns < length ms) × (n ≡ Validate)
end_apart [] [] bytes a b e n vs one ends two q = absurd (ends_alone a e n ends (subst (λ (z : List ℕ). Begins z n) (sym two ∙ one) q))
end_apart [] (w ∷ ns) bytes a b e n vs one ends two q = absurd (ends_alone a e w ends (subst (λ (z : List ℕ). Begins z w) one (first_begins bytes b w ns two)))
end_apart (v ∷ ms) [] bytes a b e n vs one ends two q =
    (omega arith, begins_one bytes n v (subst (λ (z : List ℕ). Begins z n) (sym two) q) (first_begins bytes a v ms one) ∙ vs.0)
end_apart (v ∷ ms) (w ∷ ns) bytes a b e n vs one ends two q =
    let same = messages_apart one.0 two.0 one.1 two.1 v w one.3 two.3 (sym one.2 ∙ two.2) in
    let on = end_apart ms ns two.1 a b e n vs.1 (subst (λ (z : List ℕ). Stream z ms a) same.1 one.4) ends two.4 q in
    (omega (arith, on.0), on.1)

-- ---- what stops an attempt that was not cut

data Stop : Type 0 where
  ends : Option Fault → Stop
  meets : Message → Option Fault → Stop

-- a validate stops nothing, but the one that is too many
Stops : Message → Option Fault → Type 0
Stops m fault = m ≡ Validate → fault ≡ None → ⊥

IsStop : Outgoing → Talk → List Message → Stop → Type 0
IsStop o t ms (ends None) = (0 < length ms) × ((rest : List ℕ) × Reads o t ms rest × StreamEnds rest None)
IsStop o t ms (ends (Some fault)) = (rest : List ℕ) × Reads o t ms rest × StreamEnds rest (Some fault)
IsStop o t ms (meets m fault) = Meets o t ms m fault × Stops m fault

validates : (o : Outgoing) (t : Talk) (ms : List Message) (rest : List ℕ) → Reads o t ms rest → AreValidates ms × Stream t.given ms rest × (length ms ≤ MOST_MESSAGES)
validates o t [] rest h = (tt, h.1, omega arith)
validates o t (m ∷ ms) rest h = (h.2, h.4, h.3)

-- nothing is wrong with a validate that is not too many
fine : (asked : List Message) (n : ℕ) → n < MOST_MESSAGES → client_fault (awaited asked) n Validate ≡ None
fine [] n less = rw (lt-ltb n MOST_MESSAGES less) refl
fine (m ∷ ms) n less = rw (lt-ltb n MOST_MESSAGES less) refl

-- a validate that stands before others stops nothing
before_others : (o : Outgoing) (t : Talk) (ms : List Message) (m : Message) (fault : Option Fault) (n : ℕ) → Meets o t ms m fault → Stops m fault → m ≡ Validate → length ms < n → n ≤ MOST_MESSAGES → ⊥
unfolding Stops
before_others o t ms m fault n (rest, reads, begins, is) stops same less few =
    stops same (sym is ∙ ap (client_fault (awaited ms) (length ms)) same ∙ fine ms (length ms) (omega (arith, less, few)))

ends_meets : (o : Outgoing) (t : Talk) (ms ns : List Message) (rest : List ℕ) (e : Option Fault) (n : Message) (g : Option Fault) → Reads o t ms rest → StreamEnds rest e → Meets o t ns n g → Stops n g → ⊥
ends_meets o t ms ns rest e n g reads end meet stops =
    let one = validates o t ms rest reads in
    let two = validates o t ns meet.0 meet.1 in
    let apart = end_apart ms ns t.given rest meet.0 e n one.0 one.1 end two.1 meet.2 in
    before_others o t ns n g (length ms) meet stops apart.1 apart.0 one.2

both_meet : (o : Outgoing) (t : Talk) (ms ns : List Message) (m n : Message) (f g : Option Fault) → Meets o t ms m f → Stops m f → Meets o t ns n g → Stops n g → (m ≡ n) × (f ≡ g)
unfolding Either_way
both_meet o t ms ns m n f g one stops two others =
    let p = validates o t ms one.0 one.1 in
    let q = validates o t ns two.0 two.1 in
    elim (meet_apart ms ns t.given one.0 two.0 m n p.0 q.0 p.1 q.1 one.2 two.2) [
      | inl same ↦ (same.1, sym one.3 ∙ ap (λ (z : List Message). client_fault (awaited z) (length z) m) same.0 ∙ ap (client_fault (awaited ns) (length ns)) same.1 ∙ two.3)
      | inr (inl less) ↦ absurd (before_others o t ms m f (length ns) one stops less.1 less.0 q.2)
      | inr (inr less) ↦ absurd (before_others o t ns n g (length ms) two others less.1 less.0 p.2)
    ]

both_end : (o : Outgoing) (t : Talk) (ms ns : List Message) (a b : List ℕ) (e f : Option Fault) → Reads o t ms a → StreamEnds a e → Reads o t ns b → StreamEnds b f → e ≡ f
both_end o t ms ns a b e f one x two y = (one_stream ms ns t.given a b e f ((validates o t ms a one).1, x) ((validates o t ns b two).1, y)).2

one_stop : (o : Outgoing) (t : Talk) (ms ns : List Message) (s r : Stop) → IsStop o t ms s → IsStop o t ns r → s ≡ r
unfolding IsStop
one_stop o t ms ns (ends None) (ends None) one two = refl
one_stop o t ms ns (ends None) (ends (Some g)) one two = ap ends (both_end o t ms ns one.1.0 two.0 None (Some g) one.1.1 one.1.2 two.1 two.2)
one_stop o t ms ns (ends (Some f)) (ends None) one two = ap ends (both_end o t ms ns one.0 two.1.0 (Some f) None one.1 one.2 two.1.1 two.1.2)
one_stop o t ms ns (ends (Some f)) (ends (Some g)) one two = ap ends (both_end o t ms ns one.0 two.0 (Some f) (Some g) one.1 one.2 two.1 two.2)
one_stop o t ms ns (ends None) (meets n g) one two = absurd (ends_meets o t ms ns one.1.0 None n g one.1.1 one.1.2 two.0 two.1)
one_stop o t ms ns (ends (Some f)) (meets n g) one two = absurd (ends_meets o t ms ns one.0 (Some f) n g one.1 one.2 two.0 two.1)
one_stop o t ms ns (meets m f) (ends None) one two = absurd (ends_meets o t ns ms two.1.0 None m f two.1.1 two.1.2 one.0 one.1)
one_stop o t ms ns (meets m f) (ends (Some g)) one two = absurd (ends_meets o t ns ms two.0 (Some g) m f two.1 two.2 one.0 one.1)
one_stop o t ms ns (meets m f) (meets n g) one two =
    let same = both_meet o t ms ns m n f g one.0 one.1 two.0 two.1 in
    rw (same.0, same.1) refl

-- ---- the attempt that ends so

attempt_by : Bool → Stop → Attempt
attempt_by cached (ends None) = tries.Lost
attempt_by cached (ends (Some fault)) = tries.Broke
attempt_by cached (meets m (Some fault)) = tries.Broke
attempt_by cached (meets (Request id call) None) = tries.Broke
attempt_by cached (meets (Batch calls) None) = tries.Broke
attempt_by cached (meets (Reply id a) None) = if is_stale cached a then tries.Stale else tries.Replied
attempt_by cached (meets Validate None) = tries.Broke
attempt_by cached (meets Close None) = tries.Closed

Stopped : Outgoing → Bool → Talk → Attempt → Type 0
Stopped o cached t a = (ms : List Message) × (s : Stop) × IsStop o t ms s × (attempt_by cached s ≡ a)

-- the message was cut, or sent
Cut : Outgoing → Talk → Type 0
Cut o t = (length t.taken < length o.bytes) × (Begins t.given Validate ⊎ StreamEnds t.given None)

IsSent : Outgoing → Talk → Type 0
IsSent o t = (t.taken ≡ o.bytes) × (o.replies ≡ false) × Begins t.given Validate

Sort : Outgoing → Bool → Talk → Attempt → Type 0
Sort o cached t a = ((a ≡ tries.NotWhole) × Cut o t) ⊎ (((a ≡ tries.Sent) × IsSent o t) ⊎ Stopped o cached t a)

begun : {given : List ℕ} {P : Type 0} → (IsGreeted given × P) ⊎ StreamEnds given None → Begins given Validate ⊎ StreamEnds given None
begun (inl h) = inl h.0.0
begun (inr h) = inr h

sort : (o : Outgoing) (cached : Bool) (t : Talk) (a : Attempt) (outcome : Outcome) → Row o cached a outcome t → Sort o cached t a
unfolding Sort Cut IsSent Stopped IsStop Stops attempt_by
sort o cached t tries.NotConnected outcome h = absurd h
sort o cached t tries.NotWhole outcome h = inl (refl, (h.0, begun h.1))
sort o cached t tries.Sent outcome h = inr (inl (refl, (h.0, h.1, h.2.0)))
sort o cached t tries.Lost outcome h = inr (inr (Validate ∷ h.0, ends None, (omega arith, (h.1, h.2, h.3)), refl))
sort o cached t tries.Closed outcome h = inr (inr (h.0, meets Close None, (h.1, λ e none. cc), refl))
sort o cached t tries.Stale outcome (told, (ms, meet, stale), is) = inr (inr (Validate ∷ ms, meets (Reply (pos 1) told) None, (meet, λ e none. cc), rw stale refl))
sort o cached t tries.Broke outcome (fault, inl (ms, rest, reads, breaks), is) = inr (inr (ms, ends (Some fault), (rest, reads, breaks), refl))
sort o cached t tries.Broke outcome (fault, inr (ms, m, meet), is) = inr (inr (ms, meets m (Some fault), (meet, λ e none. cc), refl))
sort o cached t tries.Replied outcome (told, (ms, meet, stale), is) = inr (inr (Validate ∷ ms, meets (Reply (pos 1) told) None, (meet, λ e none. cc), rw stale refl))

-- ---- a message that was cut or sent met no stop

-- a first validate stops nothing
first_fine : (o : Outgoing) (t : Talk) (m : Message) (fault : Option Fault) → Begins t.given Validate → Meets o t [] m fault → Stops m fault → ⊥
unfolding Stops
first_fine o t m fault validate (rest, reads, begins, is) stops =
    let same = begins_one t.given m Validate (subst (λ (z : List ℕ). Begins z m) (sym reads.1) begins) validate in
    stops same (sym is ∙ ap (client_fault None 0) same ∙ fine [] 0 (omega arith))

cut_stop : (o : Outgoing) (t : Talk) (ms : List Message) (s : Stop) → Cut o t → IsStop o t ms s → ⊥
unfolding Cut IsStop
cut_stop o t [] (ends None) (short, start) (none, more) = absurd (omega (arith, none))
cut_stop o t [] (ends (Some fault)) (short, inl validate) (rest, reads, breaks) = ends_alone rest (Some fault) Validate breaks (subst (λ (z : List ℕ). Begins z Validate) reads.1 validate)
cut_stop o t [] (ends (Some fault)) (short, inr front) (rest, reads, breaks) =
    absurd (let e : None ≡ Some fault = one_end rest None (Some fault) (subst (λ (z : List ℕ). StreamEnds z None) reads.1 front) breaks in cc)
cut_stop o t [] (meets m fault) (short, inl validate) (meet, stops) = first_fine o t m fault validate meet stops
cut_stop o t [] (meets m fault) (short, inr front) ((rest, reads, begins, is), stops) = ends_alone t.given None m front (subst (λ (z : List ℕ). Begins z m) (sym reads.1) begins)
cut_stop o t (m ∷ ms) (ends None) (short, start) (some, (rest, reads, front)) = absurd (omega (arith, short, ap length reads.0))
cut_stop o t (m ∷ ms) (ends (Some fault)) (short, start) (rest, reads, breaks) = absurd (omega (arith, short, ap length reads.0))
cut_stop o t (m ∷ ms) (meets n fault) (short, start) ((rest, reads, begins, is), stops) = absurd (omega (arith, short, ap length reads.0))

asked_both : (b : Bool) → b ≡ true → b ≡ false → ⊥
asked_both b one two = absurd (let e : true ≡ false = sym one ∙ two in cc)

sent_stop : (o : Outgoing) (t : Talk) (ms : List Message) (s : Stop) → IsSent o t → IsStop o t ms s → ⊥
unfolding IsSent IsStop
sent_stop o t [] (ends None) (all, asks, validate) (none, more) = absurd (omega (arith, none))
sent_stop o t [] (ends (Some fault)) (all, asks, validate) (rest, reads, breaks) = ends_alone rest (Some fault) Validate breaks (subst (λ (z : List ℕ). Begins z Validate) reads.1 validate)
sent_stop o t [] (meets m fault) (all, asks, validate) (meet, stops) = first_fine o t m fault validate meet stops
sent_stop o t (m ∷ ms) (ends None) (all, asks, validate) (some, (rest, reads, front)) = asked_both o.replies reads.1 asks
sent_stop o t (m ∷ ms) (ends (Some fault)) (all, asks, validate) (rest, reads, breaks) = asked_both o.replies reads.1 asks
sent_stop o t (m ∷ ms) (meets n fault) (all, asks, validate) ((rest, reads, begins, is), stops) = asked_both o.replies reads.1 asks

cut_sent : (o : Outgoing) (t : Talk) → Cut o t → IsSent o t → ⊥
unfolding Cut IsSent
cut_sent o t cut sent = absurd (omega (arith, cut.0, ap length sent.0))

one_sort : (o : Outgoing) (cached : Bool) (t : Talk) (a b : Attempt) → Sort o cached t a → Sort o cached t b → a ≡ b
unfolding Sort Stopped
one_sort o cached t a b (inl one) (inl two) = one.0 ∙ sym two.0
one_sort o cached t a b (inl one) (inr (inl two)) = absurd (cut_sent o t one.1 two.1)
one_sort o cached t a b (inl one) (inr (inr two)) = absurd (cut_stop o t two.0 two.1 one.1 two.2)
one_sort o cached t a b (inr (inl one)) (inl two) = absurd (cut_sent o t two.1 one.1)
one_sort o cached t a b (inr (inl one)) (inr (inl two)) = one.0 ∙ sym two.0
one_sort o cached t a b (inr (inl one)) (inr (inr two)) = absurd (sent_stop o t two.0 two.1 one.1 two.2)
one_sort o cached t a b (inr (inr one)) (inl two) = absurd (cut_stop o t one.0 one.1 two.1 one.2)
one_sort o cached t a b (inr (inr one)) (inr (inl two)) = absurd (sent_stop o t one.0 one.1 two.1 one.2)
one_sort o cached t a b (inr (inr one)) (inr (inr two)) = sym one.3 ∙ ap (attempt_by cached) (one_stop o t one.0 two.0 one.1 two.1 one.2 two.2) ∙ two.3

pub one_row : TalksHaveOneRow
one_row o cached t a b outcome other one two = one_sort o cached t a b (sort o cached t a outcome one) (sort o cached t b other two)

-- ---- a talk has one answer

same_answer : (a b : Answer) → Reply (pos 1) a ≡ Reply (pos 1) b → a ≡ b
same_answer a b e = cc e

pub one_answer : RepliesHaveOneAnswer
unfolding Stops
one_answer o cached t a b stale moved (ms, meet, is) (ns, others, so) =
    same_answer a b (both_meet o t (Validate ∷ ms) (Validate ∷ ns) (Reply (pos 1) a) (Reply (pos 1) b) None None meet (λ e none. cc) others (λ e none. cc)).0
