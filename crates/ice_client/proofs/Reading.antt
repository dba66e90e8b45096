-- From what was heard to the row of an attempt.
use Rattle.std.proofs.Common.{◌≡◌, ℕ, ℤ, pos, ◌+◌, ◌<◌, ◌≤◌, ◌&&◌, Bool, true, false, inl, inr, List, [], ◌∷◌, ◌++◌, length, Option, None, Some, IsSome, Ok, refl, ap, subst, ◌∙◌, append_assoc, append-nil, arith, if◌then◌else◌}
use Rattle.std.proofs.lemmas.List.{length-append}
use Rattle.ice_prims.specs.declared.fault.Fault.{Fault}
use Rattle.ice_ports.specs.declared.ports.TheConstants.{MOST_OF_A_READ}
use Rattle.ice_ports.specs.declared.talk.Talk.{Talk}
use Rattle.ice_ports.specs.Talks.{and_then, gives, adds}
use Rattle.ice_messages.specs.declared.message.Answer.{Answer}
use Rattle.ice_messages.specs.declared.message.Message.{Message}
use Rattle.ice_messages.specs.declared.message.Message.TheVariants.{Request, Batch, Reply, Validate, Close}
use Rattle.ice_messages.specs.Messages.{SpellsMessage}
use Rattle.ice_messages.specs.Streams.{Stream, StreamEnds}
use Rattle.ice_messages.proofs.Streams.{message_long}
use Rattle.ice_messages.specs.Framing.{Held}
use Rattle.retry_core.specs.declared.attempt.Attempt.TheVariants as tries
use Rattle.retry_core.specs.declared.client_table.ClientEvent.TheVariants as events
use Rattle.retry_core.specs.declared.client_table.ClientState.TheVariants.{AwaitingReply}
use Rattle.retry_core.specs.ClientTable.{client_row}
use Rattle.ice_messages.specs.declared.ends.TheConstants.{MOST_MESSAGES}
use Rattle.talking.specs.declared.hearing.Heard.{Heard}
use Rattle.talking.specs.declared.hearing.Heard.TheVariants as heards
use Rattle.ice_client.specs.declared.outcome.End.{End}
use Rattle.ice_client.specs.declared.outcome.Outcome.TheVariants as outcomes
use Rattle.ice_client.specs.declared.outgoing.Outgoing.{Outgoing}
use Rattle.ice_messages.specs.Ends.{client_fault}
use Rattle.talking.specs.Hearing.{IsGoing, Hears, ReadsFrugally, heard_part, is_ended, is_failed}
use Rattle.ice_client.specs.Rows.{AreValidates, Reads, is_no_object}
use Rattle.talking.specs.Ends.{Begins}
use Rattle.ice_client.specs.Steps.{broke, met_end, end_of, EndsBy, Greets, Awaits}
use Rattle.talking.proofs.Adding.{adds_then}
use Rattle.ice_client.proofs.Messages.{stream_join, stream_more, stream_grows, unfaulted, reply_id}

abbrev ending : End → Option End
ending end = Some end

some_is : {a b : End} → ending a ≡ ending b → a ≡ b
some_is e = cc

none_is : {a : End} → None ≡ ending a → ⊥
none_is e = cc

some_not : {a : End} → ending a ≡ None → ⊥
some_not e = cc

begins : (bytes new first : List ℕ) (m : Message) → bytes ≡ first ++ new → SpellsMessage first m → Begins bytes m
begins bytes new first m parts spelled = (new, (first, new, parts, spelled, refl))

-- ---- the first message

-- something was read where a message stands
last_piece : {got : List ℕ} {m : Message} → ReadsFrugally [] got → Begins got m → (before piece : List ℕ) × (got ≡ before ++ piece) × StreamEnds before None × (length piece ≤ MOST_OF_A_READ)
last_piece {got = got} {m = m} (inl none) begins = absurd (let long : 14 ≤ length begins.1.0 = message_long begins.1.0 m begins.1.3 in omega (arith, ap length none, ap length begins.1.2, length-append begins.1.0 begins.1.1, long))
last_piece (inr some) begins = some

module _ (E : Type 0) (cached : Bool) (got : List ℕ) (new : Held) (frugal : ReadsFrugally [] got) where
  odd_first : (m : Message) (fault : Fault) → client_fault None 0 m ≡ Some fault → Hears {E = E} got new (Ok (heards.Message m))
      → Greets {E = E} cached new (heard_part {E = E} got (Ok (heards.Message m))) (Ok (Some (broke fault)))
  odd_first m fault e (first, parts, spelled, going) =
      (refl, λ o some. (tries.Broke, refl, (fault, inr ([], m, (got, (refl, refl), begins got new.bytes first m parts spelled, e)), refl)))

  pub greets : (h : Heard) → Hears {E = E} got new (Ok h) → Greets {E = E} cached new (heard_part {E = E} got (Ok h)) (Ok (end_of None 0 cached h))
  greets (heards.Message (Request id call)) h = odd_first (Request id call) _ refl h
  greets (heards.Message (Batch calls)) h = odd_first (Batch calls) _ refl h
  greets (heards.Message (Reply id answer)) h = odd_first (Reply id answer) _ refl h
  greets (heards.Message Validate) (first, parts, spelled, going) =
      let stands = begins got new.bytes first Validate parts spelled in
      (refl, (first, new.bytes, parts, spelled, refl), going, (stands, last_piece frugal stands))
  greets (heards.Message Close) (first, parts, spelled, going) =
      (refl, λ o some. (tries.Closed, refl, ([], (got, (refl, refl), begins got new.bytes first Close parts spelled, refl), refl)))
  greets (heards.Broken fault) h = (refl, λ o some. (tries.Broke, refl, (fault, inl ([], got, (refl, refl), h), refl)))
  greets heards.Ended h = (refl, λ o some. (tries.NotWhole, refl, (some, inr h, inr (refl, refl))))
  greets heards.Failed h = (refl, λ o some. (tries.NotWhole, refl, (some, inr h, inl (refl, refl))))

-- ---- behind validates

both_false : (b : Bool) → (b && false) ≡ false
both_false true = refl
both_false false = refl

module _ (o : Outgoing) (cached : Bool) (u : Talk) (ms : List Message) (rest : List ℕ) (reads : Reads o u (Validate ∷ ms) rest) where
  replied_row : (answer : Answer) (b c : Bool) → is_no_object answer ≡ b → cached ≡ c → Begins rest (Reply (pos 1) answer) → client_fault (Some (pos 1)) (length (Validate ∷ ms)) (Reply (pos 1) answer) ≡ None
      → EndsBy o cached AwaitingReply (record { event = if b then events.Refused2 c else events.ReplyRead; outcome = outcomes.Replied answer }) u
  replied_row answer true true lacks from stands fine = (tries.Stale, refl, (answer, (ms, (rest, reads, stands, fine), rw (lacks, from) refl), refl))
  replied_row answer true false lacks from stands fine = (tries.Replied, refl, (answer, (ms, (rest, reads, stands, fine), rw from refl), refl))
  replied_row answer false c lacks from stands fine = (tries.Replied, refl, (answer, (ms, (rest, reads, stands, fine), rw lacks (both_false cached)), refl))

  met_row : (E : Type 0) (new : Held) (m : Message) (end : End) (fault : Option Fault) → client_fault (Some (pos 1)) (length (Validate ∷ ms)) m ≡ fault → Hears {E = E} rest new (Ok (heards.Message m)) → met_end fault cached m ≡ Some end
      → EndsBy o cached AwaitingReply end u
  met_row E new m end (Some fault) e (first, parts, spelled, going) is =
      subst (λ (x : End). EndsBy o cached AwaitingReply x u) (some_is is) (tries.Broke, refl, (fault, inr (Validate ∷ ms, m, (rest, reads, begins rest new.bytes first m parts spelled, e)), refl))
  met_row E new (Request id call) end None e h is = absurd (none_is is)
  met_row E new (Batch calls) end None e h is = absurd (none_is is)
  met_row E new (Reply id answer) end None e (first, parts, spelled, going) is =
      let same : id ≡ pos 1 = reply_id (pos 1) id (length (Validate ∷ ms)) answer e in
      subst (λ (x : End). EndsBy o cached AwaitingReply x u) (some_is is)
      (replied_row answer (is_no_object answer) cached refl refl (begins rest new.bytes first (Reply (pos 1) answer) parts (subst (λ (i : ℤ). SpellsMessage first (Reply i answer)) same spelled))
      (subst (λ (i : ℤ). client_fault (Some (pos 1)) (length (Validate ∷ ms)) (Reply i answer) ≡ None) same e))
  met_row E new Validate end None e h is = absurd (none_is is)
  met_row E new Close end None e (first, parts, spelled, going) is =
      subst (λ (x : End). EndsBy o cached AwaitingReply x u) (some_is is) (tries.Closed, refl, (Validate ∷ ms, (rest, reads, begins rest new.bytes first Close parts spelled, e), refl))

  pub decided : (E : Type 0) (new : Held) (h : Heard) (end : End) → Hears {E = E} rest new (Ok h) → u.ended ≡ is_ended {E = E} (Ok h) → u.failed ≡ is_failed {E = E} (Ok h)
      → end_of (Some (pos 1)) (length (Validate ∷ ms)) cached h ≡ Some end → EndsBy o cached AwaitingReply end u
  decided E new (heards.Message m) end h ends fails is = met_row E new m end (client_fault (Some (pos 1)) (length (Validate ∷ ms)) m) refl h is
  decided E new (heards.Broken fault) end h ends fails is =
      subst (λ (x : End). EndsBy o cached AwaitingReply x u) (some_is is) (tries.Broke, refl, (fault, inl (Validate ∷ ms, rest, reads, h), refl))
  decided E new heards.Ended end h ends fails is = subst (λ (x : End). EndsBy o cached AwaitingReply x u) (some_is is) (tries.Lost, refl, (ms, rest, reads, h, inr (refl, ends)))
  decided E new heards.Failed end h ends fails is = subst (λ (x : End). EndsBy o cached AwaitingReply x u) (some_is is) (tries.Lost, refl, (ms, rest, reads, h, inl (refl, fails)))

-- it can come
met_comes : (fault : Option Fault) (cached : Bool) (m : Message) (end : End) → met_end fault cached m ≡ Some end → (replies : Bool) (size : ℕ) → IsSome (client_row replies size AwaitingReply end.event)
met_comes (Some fault) cached m end is replies size = subst (λ (x : End). IsSome (client_row replies size AwaitingReply x.event)) (some_is is) refl
met_comes None cached (Request id call) end is replies size = absurd (none_is is)
met_comes None cached (Batch calls) end is replies size = absurd (none_is is)
met_comes None cached (Reply id answer) end is replies size = subst (λ (x : End). IsSome (client_row replies size AwaitingReply x.event)) (some_is is) (answered (is_no_object answer)) where
  answered : (b : Bool) → IsSome (client_row replies size AwaitingReply (if b then events.Refused2 cached else events.ReplyRead))
  answered true = refl
  answered false = refl
met_comes None cached Validate end is replies size = absurd (none_is is)
met_comes None cached Close end is replies size = subst (λ (x : End). IsSome (client_row replies size AwaitingReply x.event)) (some_is is) refl

ends_come : (n : ℕ) (cached : Bool) (h : Heard) (end : End) → end_of (Some (pos 1)) n cached h ≡ Some end → (replies : Bool) (size : ℕ) → IsSome (client_row replies size AwaitingReply end.event)
ends_come n cached (heards.Message m) end is replies size = met_comes (client_fault (Some (pos 1)) n m) cached m end is replies size
ends_come n cached (heards.Broken fault) end is replies size = subst (λ (x : End). IsSome (client_row replies size AwaitingReply x.event)) (some_is is) refl
ends_come n cached heards.Ended end is replies size = subst (λ (x : End). IsSome (client_row replies size AwaitingReply x.event)) (some_is is) refl
ends_come n cached heards.Failed end is replies size = subst (λ (x : End). IsSome (client_row replies size AwaitingReply x.event)) (some_is is) refl

-- ---- what was heard is a validate

is_validate : (fault : Option Fault) (n : ℕ) (m : Message) (cached : Bool) → client_fault (Some (pos 1)) n m ≡ fault → met_end fault cached m ≡ None → (m ≡ Validate) × (n < MOST_MESSAGES)
is_validate (Some fault) n m cached e is = absurd (some_not is)
is_validate None n (Request id call) cached e is = absurd (let z = (unfaulted (Some (pos 1)) n (Request id call) e).1 in cc)
is_validate None n (Batch calls) cached e is = absurd (let z = (unfaulted (Some (pos 1)) n (Batch calls) e).1 in cc)
is_validate None n (Reply id answer) cached e is = absurd (some_not is)
is_validate None n Validate cached e is = (refl, (unfaulted (Some (pos 1)) n Validate e).0)
is_validate None n Close cached e is = absurd (some_not is)

pub one_validate : (E : Type 0) (bytes got : List ℕ) (new : Held) (h : Heard) (n : ℕ) (cached : Bool) → end_of (Some (pos 1)) n cached h ≡ None → Hears {E = E} bytes new (Ok h)
    → (first : List ℕ) × (bytes ≡ first ++ new.bytes) × SpellsMessage first Validate × IsGoing new × (n < MOST_MESSAGES) × (heard_part {E = E} got (Ok h) ≡ gives got)
one_validate E bytes got new (heards.Message m) n cached is (first, parts, spelled, going) =
    let one = is_validate (client_fault (Some (pos 1)) n m) n m cached refl is in
    (first, parts, subst (SpellsMessage first) one.0 spelled, going, one.1, refl)
one_validate E bytes got new (heards.Broken fault) n cached is h = absurd (some_not is)
one_validate E bytes got new heards.Ended n cached is h = absurd (some_not is)
one_validate E bytes got new heards.Failed n cached is h = absurd (some_not is)

validates_more : (ms : List Message) → AreValidates ms → AreValidates (ms ++ Validate ∷ [])
validates_more [] h = (refl, tt)
validates_more (m ∷ ms) h = (h.0, validates_more ms h.1)

-- ---- awaiting the reply: what was read so far

pub record Waited (old now : Held) (before : ℕ) (a b : Option Talk) : Type 0 where
  pub got : List ℕ
  pub messages : List Message
  pub talk : b ≡ adds a (gives got)
  pub validates : AreValidates messages
  pub read : Stream (old.bytes ++ got) messages now.bytes
  pub count : before ≡ length messages + 1
  pub few : before ≤ MOST_MESSAGES
  pub going : IsGoing now

-- and what is heard next
module _ (E : Type 0) (a b c : Option Talk) (old now new : Held) (before : ℕ) (w : Waited old now before a b) (got : List ℕ) (h : Heard) (cached : Bool) (next_talk : c ≡ adds b (heard_part {E = E} got (Ok h)))
    (hears : Hears {E = E} (now.bytes ++ got) new (Ok h)) where
  pub waits_on : end_of (Some (pos 1)) before cached h ≡ None → Waited old new (before + 1) a c × (before < MOST_MESSAGES) × (is_failed {E = E} (Ok h) ≡ false)
  waits_on is =
      let one = one_validate E (now.bytes ++ got) got new h before cached is hears in (
        record {
          got = w.got ++ got;
          messages = w.messages ++ Validate ∷ [];
          talk = adds_then a b c (gives w.got) (gives got) w.talk (next_talk ∙ ap (adds b) one.5);
          validates = validates_more w.messages w.validates;
          read = subst (λ (z : List ℕ). Stream z (w.messages ++ Validate ∷ []) new.bytes) (append_assoc old.bytes w.got got) (stream_more Validate w.messages (old.bytes ++ w.got) now.bytes got one.0 new.bytes w.read one.1 one.2);
          count = omega (arith, w.count, length-append w.messages (Validate ∷ []));
          few = omega (arith, one.4);
          going = one.3;
        },
        one.4,
        ap (λ (t : Talk). t.failed) one.5,
      )

  waited : Talk
  waited = and_then (gives w.got) (heard_part {E = E} got (Ok h))

  -- behind the talk in which the message was taken
  all_read : (o : Outgoing) (s : Talk) → s.taken ≡ o.bytes → o.replies ≡ true → Stream s.given (Validate ∷ []) old.bytes → Reads o (and_then s waited) (Validate ∷ w.messages) (now.bytes ++ got)
  unfolding waited
  all_read o s taken replies greeted = (
    append-nil s.taken ∙ taken,
    replies,
    (refl, w.validates),
    omega (arith, w.count, w.few),
    stream_join (Validate ∷ []) w.messages s.given old.bytes (w.got ++ got) (now.bytes ++ got) greeted
        (subst (λ (z : List ℕ). Stream z w.messages (now.bytes ++ got)) (append_assoc old.bytes w.got got) (stream_grows w.messages (old.bytes ++ w.got) now.bytes got w.read)),
  )

  pub waits_over : (end : End) → end_of (Some (pos 1)) before cached h ≡ Some end
      → (t : Talk) × (c ≡ adds a t) × (t.failed ≡ is_failed {E = E} (Ok h)) × Awaits {E = E} cached old t (Ok end)
  unfolding waited
  waits_over end is = (
    waited,
    adds_then a b c (gives w.got) (heard_part {E = E} got (Ok h)) w.talk next_talk,
    refl,
    (
      refl,
      ends_come before cached h end is,
      λ o s taken replies unended unfailed greeted.
          decided o cached (and_then s waited) w.messages (now.bytes ++ got) (all_read o s taken replies greeted) E new h end hears (rw unended refl) (rw unfailed refl)
          (subst (λ (n : ℕ). end_of (Some (pos 1)) n cached h ≡ Some end) (omega (arith, w.count)) is),
    ),
  )
