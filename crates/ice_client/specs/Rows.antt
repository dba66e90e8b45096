-- One attempt and its talk, row by row: the first row that fits counts. (Ice manual, "Automatic Retries" and "The Ice Protocol".)
use Rattle.std.specs.Prelude.{ℕ, ℤ, pos, ◌≡◌, ◌≤◌, ◌<◌, ◌⊎◌, ◌&&◌, ◌==◌, Bool, true, false, List, [], ◌∷◌, ◌++◌, length, Option, None, Some}
use Rattle.ice_prims.specs.declared.fault.Fault.{Fault}
use Rattle.ice_ports.specs.declared.ports.TheConstants.{MOST_OF_A_READ}
use Rattle.ice_ports.specs.declared.talk.Talk.{Talk}
use Rattle.ice_messages.specs.declared.message.Answer.{Answer}
use Rattle.ice_messages.specs.declared.message.Answer.TheVariants.{Done, Raised, Missing, Unknown}
use Rattle.ice_messages.specs.declared.message.Message.{Message}
use Rattle.ice_messages.specs.declared.message.Message.TheVariants.{Reply, Validate, Close}
use Rattle.ice_messages.specs.Streams.{Stream, StreamEnds}
use Rattle.talking.specs.Ends.{Begins}
use Rattle.retry_core.specs.declared.attempt.Attempt.{Attempt}
use Rattle.retry_core.specs.declared.attempt.Attempt.TheVariants as tries
use Rattle.ice_messages.specs.declared.ends.TheConstants.{MOST_MESSAGES}
use Rattle.ice_client.specs.declared.outcome.Outcome.{Outcome}
use Rattle.ice_client.specs.declared.outcome.Outcome.TheVariants as outcomes
use Rattle.ice_client.specs.declared.outgoing.Outgoing.{Outgoing}
use Rattle.ice_messages.specs.Ends.{client_fault}

-- ---- what was read

-- the bytes begin with a validate, and nothing was read once that was whole: all but the last piece is a front
abbrev pub IsGreeted : List ℕ → Type 0
IsGreeted bytes = Begins bytes Validate × ((before piece : List ℕ) × (bytes ≡ before ++ piece) × StreamEnds before None × (length piece ≤ MOST_OF_A_READ))

abbrev pub AreValidates : List Message → Type 0
AreValidates [] = Unit {0}
AreValidates (m ∷ ms) = (m ≡ Validate) × AreValidates ms

-- Validates alone were read, no more messages than one attempt reads, and these bytes follow. Before the first of
-- them nothing was sent; behind it the message was taken whole, and its reply is awaited.
abbrev pub Reads : Outgoing → Talk → List Message → List ℕ → Type 0
Reads o t [] rest = (t.taken ≡ []) × (t.given ≡ rest)
Reads o t (m ∷ ms) rest =
    (t.taken ≡ o.bytes) × (o.replies ≡ true) × AreValidates (m ∷ ms) × (length (m ∷ ms) ≤ MOST_MESSAGES) × Stream t.given (m ∷ ms) rest

-- the reply to which request is awaited behind these messages; none, but a first message
abbrev pub awaited : List Message → Option ℤ
awaited [] = None
awaited (m ∷ ms) = Some (pos 1)

-- behind validates this message was read, and this is wrong with it, or nothing
abbrev pub Meets : Outgoing → Talk → List Message → Message → Option Fault → Type 0
Meets o t ms m fault = (rest : List ℕ) × Reads o t ms rest × Begins rest m × (client_fault (awaited ms) (length ms) m ≡ fault)

-- ---- the reply

-- there is no such object
abbrev pub is_no_object : Answer → Bool
is_no_object (Done body) = false
is_no_object (Raised body) = false
is_no_object (Missing status i f o) = status == 2
is_no_object (Unknown status what) = false

-- the place came from a cache, and is no longer that of the object
abbrev pub is_stale : Bool → Answer → Bool
is_stale cached answer = cached && is_no_object answer

-- the reply to the request was read, with this answer, and the place is stale or not
abbrev pub IsReplied : Outgoing → Bool → Talk → Answer → Bool → Type 0
IsReplied o cached t answer stale = (ms : List Message) × Meets o t (Validate ∷ ms) (Reply (pos 1) answer) None × (is_stale cached answer ≡ stale)

-- ---- the rows

-- the talk shows a failure, or the end of the stream
abbrev pub IsLoss : Outcome → Talk → Type 0
IsLoss outcome t = ((outcome ≡ outcomes.NetFailed) × (t.failed ≡ true)) ⊎ ((outcome ≡ outcomes.Ended) × (t.ended ≡ true))

-- what was read behind validates is no message, or one that may not come: another one before the first validate, one that
-- no server sends, a reply to another request, or one more than an attempt reads
abbrev pub Breaks : Outgoing → Talk → Fault → Type 0
Breaks o t fault = ((ms : List Message) × (rest : List ℕ) × Reads o t ms rest × StreamEnds rest (Some fault)) ⊎ ((ms : List Message) × (m : Message) × Meets o t ms m (Some fault))

-- an attempt that connected, to a place that came from a cache or not, what it came to, and its talk
abbrev pub Row : Outgoing → Bool → Attempt → Outcome → Talk → Type 0
Row o cached tries.NotConnected outcome t = ⊥
Row o cached tries.NotWhole outcome t = (length t.taken < length o.bytes) × ((IsGreeted t.given × (t.ended ≡ false)) ⊎ StreamEnds t.given None) × IsLoss outcome t
Row o cached tries.Sent outcome t = (t.taken ≡ o.bytes) × (o.replies ≡ false) × IsGreeted t.given × (t.ended ≡ false) × (t.failed ≡ false) × (outcome ≡ outcomes.Sent)
Row o cached tries.Lost outcome t = (ms : List Message) × (rest : List ℕ) × Reads o t (Validate ∷ ms) rest × StreamEnds rest None × IsLoss outcome t
Row o cached tries.Closed outcome t = (ms : List Message) × Meets o t ms Close None × (outcome ≡ outcomes.Closed)
Row o cached tries.Stale outcome t = (answer : Answer) × IsReplied o cached t answer true × (outcome ≡ outcomes.Replied answer)
Row o cached tries.Broke outcome t = (fault : Fault) × Breaks o t fault × (outcome ≡ outcomes.Broke fault)
Row o cached tries.Replied outcome t = (answer : Answer) × IsReplied o cached t answer false × (outcome ≡ outcomes.Replied answer)

-- the bytes taken are a prefix of the message, and none unless the bytes given begin with a validate
abbrev pub IsOrderly : Outgoing → Talk → Type 0
IsOrderly o t = ((rest : List ℕ) × (o.bytes ≡ t.taken ++ rest)) × ((t.taken ≡ []) ⊎ Begins t.given Validate)
