-- Which calls, outcomes and answers can come, and what follows of a message that was tried.
use Rattle.std.specs.Prelude.{ℕ, pos, false, ◌≡◌, ◌<◌, ◌⊎◌, List, ◌∷◌, [], ◌++◌, length, Option, Some, None}
use Rattle.ice_encoding.specs.Parts.{Each}
use Rattle.ice_ports.specs.declared.talk.Talk.{Talk}
use Rattle.ice_messages.specs.declared.message.Call.{Call}
use Rattle.ice_messages.specs.declared.message.Answer.{Answer}
use Rattle.ice_messages.specs.declared.message.Answer.TheVariants.{Done}
use Rattle.ice_messages.specs.declared.message.Message.{Message}
use Rattle.ice_messages.specs.declared.message.Message.TheVariants.{Request, Reply, Close}
use Rattle.ice_messages.specs.Messages.{SpellsMessage}
use Rattle.ice_messages.specs.Written.{IsCallWith, IsWritableCall}
use Rattle.ice_client.specs.declared.outcome.Outcome.{Outcome}
use Rattle.ice_client.specs.declared.outcome.Outcome.TheVariants.{Replied, Sent, NetFailed, Ended, Closed, Broke, NoEndpoint}
use Rattle.ice_client.specs.declared.outgoing.Outgoing.{Outgoing}
use Rattle.ice_client.specs.Rows.{IsReplied, Meets}
use Rattle.ice_client.specs.Sending.{IsOf, IsIdempotent}
use Rattle.ice_client.specs.ClientDid.{Tried, ClientDid, ClientStarved, is_uncached}
use Rattle.object_adapter.specs.Replies.{IsReply, KeepsLimit}
use Rattle.object_adapter.specs.Results.{AreResults}
use Rattle.ice_gateway.specs.Gate.{Gate, Operation, operation_of}
use Rattle.ice_gateway.specs.Anew.{body_anew}
use Rattle.ice_gateway.specs.Mapped.{Mapped, admitted}
use Rattle.ice_gateway.specs.declared.renewing.Renewed.{Renewed}
use Rattle.ice_gateway.specs.declared.renewing.Renewed.TheVariants as renewals
use Rattle.ice_gateway.specs.declared.admitting.Admitted.{Admitted}
use Rattle.ice_gateway.specs.declared.admitting.Admitted.TheVariants.{Goes, Refused}

-- ---- what can come

abbrev pub anything : List ℕ → Type 0
anything body = Unit {0}

-- a call as one comes in a message: a mode that there is, a context in rising order
abbrev pub Comes : Call → Type 0
Comes = IsCallWith anything

-- a body that was written anew is no longer than one may be
abbrev pub IsRenewed : Renewed → Type 0
IsRenewed (renewals.Written body) = AreResults body
IsRenewed renewals.TooLong = Unit {0}
IsRenewed (renewals.Broken fault) = Unit {0}

-- it can be sent in a request
abbrev pub CanGo : Call → Type 0
CanGo c = IsWritableCall c × KeepsLimit (Request (pos 1) c)

-- a call that can be sent, or an answer of which a reply can be written
abbrev pub IsAdmitted : Admitted → Type 0
IsAdmitted (Goes c) = CanGo c
IsAdmitted (Refused answer) = IsReply answer

-- an answer that was read in the reply to a request with id 1
abbrev pub CameBack : Answer → Type 0
CameBack answer = (bytes : List ℕ) × SpellsMessage bytes (Reply (pos 1) answer)

-- what a request that asks for a reply comes to, at endpoints that can be used
abbrev pub CanCome : Outcome → Type 0
CanCome (Replied answer) = CameBack answer
CanCome Sent = ⊥
CanCome NetFailed = Unit {0}
CanCome Ended = Unit {0}
CanCome Closed = Unit {0}
CanCome (Broke fault) = Unit {0}
CanCome NoEndpoint = ⊥

-- ---- a message that is not idempotent

-- No server may dispatch it from this attempt: it did not connect, or did not take the message whole, or the server closed
-- the connection, which says that it dispatched nothing that it did not answer.
abbrev pub IsDead : Outgoing → Option Talk → Type 0
IsDead o None = Unit {0}
IsDead o (Some t) = (length t.taken < length o.bytes) ⊎ ((ms : List Message) × Meets o t ms Close None)

-- no attempt was made at the message; or no server may dispatch any but the last
abbrev pub OnlyLastCounts : Message → List Tried → Type 0
OnlyLastCounts m tried = (tried ≡ [])
    ⊎ ((o : Outgoing) × (before : List Tried) × (last : Tried) × IsOf o m × (tried ≡ before ++ last ∷ []) × Each (λ (x : Tried). IsDead o x.talk) before)

-- so it is whatever was lost, closed and tried again, where the message had an outcome, and where memory ran out before the
-- first attempt, or in the last
pub record ForwardsOnce : Type 0 where
  pub done : (m : Message) (retries : ℕ) (tried : List Tried) (outcome : Outcome) → (IsIdempotent m → ⊥) → ClientDid m retries tried (Some outcome) → Each is_uncached tried → OnlyLastCounts m tried
  pub starved : (m : Message) (retries : ℕ) (tried : List Tried) → (IsIdempotent m → ⊥) → ClientStarved m retries tried → Each is_uncached tried → OnlyLastCounts m tried

-- ---- a success of a server

-- Where the last attempt's link gave a validate and then a success, with results of the operation which, written anew, are
-- within their bound, the answer of the request is that success.
abbrev pub SuccessesComeBack : Type 0
SuccessesComeBack =
    (gate : Gate) (c call : Call) (op : Operation) (m : Message) (tried before : List Tried) (last : Tried) (t : Talk) (outcome : Outcome) (body out : List ℕ) (answer : Answer)
    → operation_of gate c.operation ≡ Some op → admitted gate c ≡ Goes call → (did : ClientDid m gate.retries tried (Some outcome)) → tried ≡ before ++ last ∷ []
    → last.talk ≡ Some t → IsReplied did.outgoing last.cached t (Done body) false → body_anew op.tables op.declared.results body ≡ renewals.Written out
    → Mapped gate c (Some outcome) answer → answer ≡ Done out
