-- What a client makes of what it hears.
use Rattle.std.specs.Prelude.{◌≡◌, ℕ, ℤ, ◌<◌, Bool, true, false, [], ◌∷◌, length, Option, None, Some, IsSome, Result, Ok, Err, if◌then◌else◌}
use Rattle.ice_prims.specs.declared.fault.Fault.{Fault}
use Rattle.ice_ports.specs.declared.talk.Talk.{Talk}
use Rattle.ice_ports.specs.Talks.{and_then, gives}
use Rattle.ice_messages.specs.declared.message.Answer.{Answer}
use Rattle.ice_messages.specs.declared.message.Message.{Message}
use Rattle.ice_messages.specs.declared.message.Message.TheVariants.{Request, Batch, Reply, Validate, Close}
use Rattle.ice_messages.specs.Streams.{Stream}
use Rattle.ice_messages.specs.Framing.{Held}
use Rattle.retry_core.specs.declared.attempt.Attempt.{Attempt}
use Rattle.retry_core.specs.declared.client_table.ClientEvent.TheVariants as events
use Rattle.retry_core.specs.declared.client_table.ClientState.{ClientState}
use Rattle.retry_core.specs.declared.client_table.ClientState.TheVariants.{AwaitingValidate, AwaitingReply}
use Rattle.retry_core.specs.declared.client_table.ClientNext.TheVariants.{Ends}
use Rattle.retry_core.specs.ClientTable.{client_row}
use Rattle.talking.specs.declared.hearing.Heard.{Heard}
use Rattle.talking.specs.declared.hearing.Heard.TheVariants as heards
use Rattle.ice_client.specs.declared.outcome.Outcome.TheVariants as outcomes
use Rattle.ice_client.specs.declared.outcome.End.{End}
use Rattle.ice_client.specs.declared.outgoing.Outgoing.{Outgoing}
use Rattle.ice_messages.specs.Ends.{client_fault}
use Rattle.talking.specs.Hearing.{IsGoing}
use Rattle.ice_client.specs.Rows.{is_no_object, IsGreeted, Row}

abbrev pub broke : Fault → End
broke fault = record { event = events.Broken; outcome = outcomes.Broke fault }

abbrev pub replied : Bool → Answer → End
replied cached answer = record {
  event = if is_no_object answer then events.Refused2 cached else events.ReplyRead;
  outcome = outcomes.Replied answer;
}

-- a message with which nothing is wrong: a validate ends nothing
abbrev pub taken_end : Bool → Message → Option End
taken_end cached (Request id call) = None
taken_end cached (Batch calls) = None
taken_end cached (Reply id answer) = Some (replied cached answer)
taken_end cached Validate = None
taken_end cached Close = Some (record { event = events.CloseRead; outcome = outcomes.Closed })

abbrev pub met_end : Option Fault → Bool → Message → Option End
met_end None cached m = taken_end cached m
met_end (Some fault) cached m = Some (broke fault)

-- how the attempt ends by what was heard behind so many messages, where the reply to this request is awaited; none where
-- it goes on
abbrev pub end_of : Option ℤ → ℕ → Bool → Heard → Option End
end_of asked before cached (heards.Message m) = met_end (client_fault asked before m) cached m
end_of asked before cached (heards.Broken fault) = Some (broke fault)
end_of asked before cached heards.Ended = Some (record { event = events.Lost; outcome = outcomes.Ended })
end_of asked before cached heards.Failed = Some (record { event = events.Lost; outcome = outcomes.NetFailed })

-- in this state of the client that ends the attempt, with the row of this talk
abbrev pub EndsBy : Outgoing → Bool → ClientState → End → Talk → Type 0
EndsBy o cached state end t = (a : Attempt) × (client_row o.replies (length o.bytes) state end.event ≡ Some (Ends a)) × Row o cached a end.outcome t

-- the first message: a validate, behind which the reader goes on, or the end of the attempt
abbrev pub Greets : {E : Type 0} → Bool → Held → Talk → Result (Option End) E → Type 0
Greets cached new t (Ok None) = (t ≡ gives t.given) × Stream t.given (Validate ∷ []) new.bytes × IsGoing new × IsGreeted t.given
Greets cached new t (Ok (Some end)) = (t.taken ≡ []) × ((o : Outgoing) → 0 < length o.bytes → EndsBy o cached AwaitingValidate end t)
Greets cached new t (Err e) = t ≡ gives t.given

-- the reply, behind a talk in which the message was taken whole
abbrev pub Awaits : {E : Type 0} → Bool → Held → Talk → Result End E → Type 0
Awaits cached old t (Ok end) = (t.taken ≡ [])
    × ((replies : Bool) (size : ℕ) → IsSome (client_row replies size AwaitingReply end.event))
    × ((o : Outgoing) (s : Talk) → s.taken ≡ o.bytes → o.replies ≡ true → s.ended ≡ false → s.failed ≡ false → Stream s.given (Validate ∷ []) old.bytes
    → EndsBy o cached AwaitingReply end (and_then s t))
Awaits cached old t (Err e) = t ≡ gives t.given
