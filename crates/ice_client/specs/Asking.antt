-- What an attempt came to.
use Rattle.std.specs.Prelude.{◌≡◌, ◌<◌, ◌⊎◌, Bool, true, false, [], ◌∷◌, length, Option, None, Some, Result, Ok, Err}
use Rattle.ice_ports.specs.declared.talk.Talk.{Talk}
use Rattle.ice_ports.specs.Talks.{and_then, gives}
use Rattle.ice_messages.specs.declared.message.Message.TheVariants.{Validate}
use Rattle.ice_messages.specs.Streams.{Stream}
use Rattle.ice_messages.specs.Framing.{Held}
use Rattle.retry_core.specs.declared.attempt.Attempt.{Attempt}
use Rattle.retry_core.specs.declared.attempt.Attempt.TheVariants.{NotConnected}
use Rattle.retry_core.specs.declared.client_table.ClientNext.TheVariants as nexts
use Rattle.retry_core.specs.Client.{Invoking, row_of, next_of, action_of, ended}
use Rattle.ice_client.specs.declared.outcome.Outcome.{Outcome}
use Rattle.ice_client.specs.declared.outcome.Outcome.TheVariants.{NetFailed}
use Rattle.ice_client.specs.declared.outcome.End.{End}
use Rattle.ice_client.specs.declared.outcome.Once.{Once}
use Rattle.ice_client.specs.declared.outgoing.Outgoing.{Outgoing}
use Rattle.ice_client.specs.Rows.{Row, IsOrderly, IsGreeted}
use Rattle.talking.specs.Ends.{Begins}

-- the client was made for this message, which has bytes
pub record IsFor (i : Invoking) (o : Outgoing) : Type 0 where
  pub idempotent : i.idempotent ≡ o.idempotent
  pub replies : i.replies ≡ o.replies
  pub length_is : i.length ≡ length o.bytes
  pub some : 0 < length o.bytes

-- the client was told how its attempt ends
abbrev pub Ends : Invoking → Invoking → End → Once → Type 0
Ends old new end once =
    (new ≡ next_of old (row_of old end.event)) × (once ≡ record { action = action_of old (row_of old end.event); outcome = end.outcome })

-- the attempt ended so: it is listed, and the client does next what the rules of retries say
abbrev pub IsOver : Invoking → Invoking → Attempt → Once → Type 0
IsOver old new a once = (new ≡ ended old a) × (once.action ≡ action_of old (Some (nexts.Ends a)))

-- an attempt, to a place that came from a cache or not, what it came to, and its talk, if it connected
abbrev pub HasRow : Outgoing → Bool → Attempt → Outcome → Option Talk → Type 0
HasRow o cached a outcome None = (a ≡ NotConnected) × (outcome ≡ NetFailed)
HasRow o cached a outcome (Some t) = Row o cached a outcome t × IsOrderly o t

-- memory ran out over this talk, in which nothing failed and nothing ended: nothing of the message was taken, or all of it,
-- behind a validate, where its reply is awaited
abbrev pub RunsOut : Outgoing → Talk → Type 0
RunsOut o t = (t.ended ≡ false) × (t.failed ≡ false) × ((t.taken ≡ []) ⊎ ((t.taken ≡ o.bytes) × (o.replies ≡ true) × Begins t.given Validate))

-- it never does before a connection was had
abbrev pub CutsOff : Outgoing → Option Talk → Type 0
CutsOff o None = ⊥
CutsOff o (Some t) = RunsOut o t

-- an attempt was made, and is over; want of memory cuts it off
abbrev pub Attempts : {E : Type 0} → Outgoing → Bool → Option Talk → Invoking → Invoking → Result Once E → Type 0
Attempts o cached talk old new (Ok once) = (a : Attempt) × HasRow o cached a once.outcome talk × IsOver old new a once
Attempts o cached talk old new (Err e) = CutsOff o talk

-- the same of one that is connected
abbrev pub Converses : {E : Type 0} → Outgoing → Bool → Talk → Invoking → Invoking → Result Once E → Type 0
Converses o cached t old new (Ok once) = (a : Attempt) × Row o cached a once.outcome t × IsOrderly o t × IsOver old new a once
Converses o cached t old new (Err e) = RunsOut o t

-- the same behind a validate
abbrev pub Asks : {E : Type 0} → Outgoing → Bool → Held → Talk → Invoking → Invoking → Result Once E → Type 0
Asks o cached old t i j result = (s : Talk) → s ≡ gives s.given → Stream s.given (Validate ∷ []) old.bytes → IsGreeted s.given → Converses o cached (and_then s t) i j result
