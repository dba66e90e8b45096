-- WHAT BOTH ENDS SAY: a client of its messages, each with its attempts, and a server of its sessions at the other ends of
-- their connections. (Ice manual, "Automatic Retries" and "At-Most-Once Semantics".)
use Rattle.std.specs.Prelude.{ℕ, pos, ◌≡◌, ◌≤◌, ◌⊎◌, Bool, List, [], ◌++◌, length, map, Option, None, Some, is_some}
use Rattle.ice_encoding.specs.Parts.{Each}
use Rattle.ice_ports.specs.declared.talk.Talk.{Talk}
use Rattle.ice_messages.specs.declared.message.Call.{Call}
use Rattle.ice_messages.specs.declared.message.Message.{Message}
use Rattle.ice_messages.specs.declared.message.Message.TheVariants.{Request}
use Rattle.retry_core.specs.declared.attempt.Attempt.{Attempt}
use Rattle.ice_client.specs.declared.outcome.Outcome.{Outcome}
use Rattle.ice_client.specs.Sending.{IsOneway}
use Rattle.ice_client.specs.ClientDid.{ClientDid, Tried}
use Rattle.talking.specs.declared.end.End.{End}
use Rattle.dispatch_pool.specs.Handled.{Keys, Handled}
use Rattle.dispatch_pool.specs.ServerDid.{ServerDid}

-- what a server says of one connection
pub record Session : Type 0 where
  pub keys : Keys
  pub most : ℕ
  pub talk : Talk
  pub handled : List Handled
  pub end : Option End

abbrev pub IsSession : Session → Type 0
IsSession s = ServerDid s.keys s.most s.talk s.handled s.end

-- an attempt, and the session at the other end of its connection, where there was one: each attempt has its own
-- connection, and each session belongs to one attempt
pub record Attempted : Type 0 where
  pub tried : Tried
  pub session : Option Session

-- a message, its attempts and its outcome
pub record Delivery : Type 0 where
  pub message : Message
  pub retries : ℕ
  pub attempts : List Attempted
  pub outcome : Option Outcome

abbrev pub tried_of : Attempted → Tried
tried_of a = a.tried

abbrev pub talk_of : Attempted → Option Talk
talk_of a = a.tried.talk

abbrev pub attempt_of : Attempted → Attempt
attempt_of a = a.tried.attempt

abbrev pub is_served : Attempted → Bool
is_served a = is_some a.session

abbrev pub talks : Delivery → List (Option Talk)
talks d = map talk_of d.attempts

-- these are the first bytes of those
abbrev pub IsPrefix : List ℕ → List ℕ → Type 0
IsPrefix first bytes = (more : List ℕ) × (first ++ more ≡ bytes)

-- The bytes that a session was given are the first of those that were taken from its attempt, and the bytes that the
-- attempt was given are the first of those that were taken from the session. Where no session was, no byte was given.
abbrev pub IsOtherEnd : Talk → Option Session → Type 0
IsOtherEnd t None = t.given ≡ []
IsOtherEnd t (Some s) = IsSession s × IsPrefix s.talk.given t.taken × IsPrefix t.given s.talk.taken

-- an attempt that did not connect has no session
abbrev pub IsMet : Option Talk → Option Session → Type 0
IsMet None session = session ≡ None
IsMet (Some t) session = IsOtherEnd t session

abbrev pub HasOtherEnd : Attempted → Type 0
HasOtherEnd a = IsMet a.tried.talk a.session

-- what clients send: a request that asks for a reply, with id 1, or what asks for none
abbrev pub IsSent : Message → Type 0
IsSent m = ((call : Call) × (m ≡ Request (pos 1) call)) ⊎ IsOneway m

-- both ends of one message fit together
pub record IsDelivery (d : Delivery) : Type 0 where
  pub sent : IsSent d.message
  pub client : ClientDid d.message d.retries (map tried_of d.attempts) d.outcome
  pub ends : Each HasOtherEnd d.attempts

-- A client's attempts at a message up to where its memory ran out: none; or such as a client makes that has no endpoint for
-- one more, and one behind them, or none.
abbrev pub RunsOut : Message → ℕ → List Tried → Type 0
RunsOut m retries tried = (tried ≡ []) ⊎ ((before rest : List Tried) × (tried ≡ before ++ rest) × (length rest ≤ 1) × ClientDid m retries before None)

-- the same of a message whose client ran out of memory
pub record IsStarved (d : Delivery) : Type 0 where
  pub sent : IsSent d.message
  pub client : RunsOut d.message d.retries (map tried_of d.attempts)
  pub ends : Each HasOtherEnd d.attempts
