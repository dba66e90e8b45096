-- What a client did to have a message answered or sent: its attempts, each with its talk, and the outcome.
-- (Ice manual, "Automatic Retries".)
use Rattle.std.specs.Prelude.{ℕ, suc, ◌≡◌, ◌≤◌, ◌<◌, ◌+◌, ◌⊎◌, ◌↔◌, Bool, true, false, List, [], ◌∷◌, ◌++◌, length, map, Option, None, Some, Result, Ok, Err}
use Rattle.ice_types.specs.declared.proxy.Endpoint.{Endpoint}
use Rattle.ice_encoding.specs.declared.limits.TheConstants.{LARGEST}
use Rattle.ice_encoding.specs.Parts.{Each}
use Rattle.ice_ports.specs.declared.talk.Talk.{Talk}
use Rattle.ice_ports.specs.Failures.{count_after, one_more}
use Rattle.ice_ports.specs.Nets.{ToldNet}
use Rattle.ice_messages.specs.declared.fault.WriteFault.{WriteFault}
use Rattle.ice_messages.specs.declared.fault.WriteFault.TheVariants.{TooLong, Memory}
use Rattle.ice_messages.specs.declared.message.Message.{Message}
use Rattle.ice_messages.specs.Messages.{message_bytes}
use Rattle.ice_messages.specs.Written.{told}
use Rattle.encaps_optionals.specs.Usable.{tcp_at}
use Rattle.retry_core.specs.declared.attempt.Attempt.{Attempt}
use Rattle.retry_core.specs.declared.client_table.ClientAction.{ClientAction}
use Rattle.retry_core.specs.declared.client_table.ClientAction.TheVariants as actions
use Rattle.retry_core.specs.Retries.{may_follow}
use Rattle.ice_client.specs.declared.outcome.Invoked.{Invoked}
use Rattle.ice_client.specs.declared.outcome.Outcome.{Outcome}
use Rattle.ice_client.specs.declared.outcome.Outcome.TheVariants as outcomes
use Rattle.ice_client.specs.declared.outgoing.Outgoing.{Outgoing}
use Rattle.ice_client.specs.Attempted.{attempted, is_failure}
use Rattle.ice_client.specs.Sending.{IsOf}
use Rattle.ice_client.specs.Asking.{HasRow, CutsOff}

-- ---- attempts

-- one attempt: whether its place came from a cache, its talk, if it connected, and how it ended
pub record Tried : Type 0 where
  pub cached : Bool
  pub talk : Option Talk
  pub attempt : Attempt

-- its row, and what it came to
abbrev pub Comes : Outgoing → Tried → Outcome → Type 0
Comes o t outcome = HasRow o t.cached t.attempt outcome t.talk

-- it may be followed by another
abbrev pub IsFollowed : Outgoing → Tried → Type 0
IsFollowed o t = ((outcome : Outcome) × Comes o t outcome) × (may_follow o.idempotent t.attempt ≡ true)

-- Each attempt but the last may be followed. The outcome is that of the last one, which may not be followed, or
-- the retries are used up; or, with no outcome, the place of the next attempt was not had.
abbrev pub Ended : Outgoing → ℕ → List Tried → Option Outcome → Type 0
Ended o retries tried None = Each (IsFollowed o) tried × (length tried ≤ retries)
Ended o retries tried (Some outcome) = (before : List Tried) × (last : Tried) × (tried ≡ before ++ last ∷ [])
    × Each (IsFollowed o) before × Comes o last outcome × (length tried ≤ retries + 1)
    × (may_follow o.idempotent last.attempt ≡ true → length tried ≡ retries + 1)

-- the attempts at a message, and its outcome
pub record ClientDid (m : Message) (retries : ℕ) (tried : List Tried) (outcome : Option Outcome) : Type 0 where
  pub outgoing : Outgoing
  pub is_of : IsOf outgoing m
  pub ended : Ended outgoing retries tried outcome

-- ---- want of memory

-- Memory ran out in the last attempt, and each before it may be followed.
pub record IsCutOff (o : Outgoing) (retries : ℕ) (tried : List Tried) : Type 0 where
  pub before : List Tried
  pub last : Tried
  pub parts : tried ≡ before ++ last ∷ []
  pub followed : Each (IsFollowed o) before
  pub few : length before ≤ retries
  pub cut : CutsOff o last.talk

-- the attempts at a message of which memory cut off the last
pub record ClientCut (m : Message) (retries : ℕ) (tried : List Tried) : Type 0 where
  pub outgoing : Outgoing
  pub is_of : IsOf outgoing m
  pub cut : IsCutOff outgoing retries tried

-- memory ran out before the first attempt at the message, or cut off the last
abbrev pub ClientStarved : Message → ℕ → List Tried → Type 0
ClientStarved m retries tried = (tried ≡ []) ⊎ ClientCut m retries tried

-- ---- the net

-- after attempts, from this number on, each at its endpoint of the proxy
abbrev pub attempted_all : List Endpoint → ℕ → List Tried → Option ToldNet → Option ToldNet
attempted_all endpoints number [] net = net
attempted_all endpoints number (t ∷ ts) net = attempted_all endpoints (suc number) ts (attempted (tcp_at number endpoints) t.talk net)

-- the count of failures after them
abbrev pub failures_after : List Tried → ℕ → ℕ
failures_after [] n = n
failures_after (t ∷ ts) n = failures_after ts (count_after n (is_failure t.talk))

-- each connect was asked at its endpoint, each link was handed back, each failure was counted
pub record Made (endpoints : List Endpoint) (tried : List Tried) (before after : Option ToldNet) (failed_before failed_after : ℕ) : Type 0 where
  pub net : after ≡ attempted_all endpoints 0 tried before
  pub failures : failed_after ≡ failures_after tried failed_before

-- the count has risen, or stands at its greatest
abbrev pub Rises : ℕ → ℕ → Type 0
Rises before after = one_more before ≤ after

-- ---- what is answered

abbrev pub is_uncached : Tried → Type 0
is_uncached t = t.cached ≡ false

abbrev pub attempts_of : List Tried → List Attempt
attempts_of tried = map (λ (t : Tried). t.attempt) tried

-- the outcome that attempts have, and none where there was no place for the first
abbrev pub had : Outcome → Option Outcome
had (outcomes.Replied answer) = Some (outcomes.Replied answer)
had outcomes.Sent = Some outcomes.Sent
had outcomes.NetFailed = Some outcomes.NetFailed
had outcomes.Ended = Some outcomes.Ended
had outcomes.Closed = Some outcomes.Closed
had (outcomes.Broke fault) = Some (outcomes.Broke fault)
had outcomes.NoEndpoint = None

-- the proxy has no endpoint that can be used, exactly where that is the outcome, and then no attempt was made
pub record IsPlaced (endpoints : List Endpoint) (tried : List Tried) (outcome : Outcome) : Type 0 where
  pub exactly : outcome ≡ outcomes.NoEndpoint ↔ tcp_at 0 endpoints ≡ None
  pub none : outcome ≡ outcomes.NoEndpoint → tried ≡ []

-- attempts were made at what is sent, none at a place that came from a cache
pub record Delivers (o : Outgoing) (endpoints : List Endpoint) (retries : ℕ) (tried : List Tried) (r : Invoked) : Type 0 where
  pub attempts : r.attempts ≡ attempts_of tried
  pub ended : Ended o retries tried (had r.outcome)
  pub placed : IsPlaced endpoints tried r.outcome
  pub uncached : Each is_uncached tried

-- so it was, or memory ran out
abbrev pub Brings : {E : Type 0} → Outgoing → List Endpoint → ℕ → List Tried → Result Invoked E → Type 0
Brings o endpoints retries tried (Ok r) = Delivers o endpoints retries tried r
Brings o endpoints retries tried (Err e) = ((tried ≡ []) ⊎ IsCutOff o retries tried) × Each is_uncached tried × (tcp_at 0 endpoints ≡ None → tried ≡ [])

-- The message was tried. One that is too long is refused with its length, and nothing is connected; want of memory may
-- come before the first attempt, or cut off the last.
abbrev pub Invokes : Message → List Endpoint → ℕ → List Tried → Result Invoked WriteFault → Type 0
Invokes m endpoints retries tried (Ok r) =
    (r.attempts ≡ attempts_of tried) × ClientDid m retries tried (had r.outcome) × IsPlaced endpoints tried r.outcome × Each is_uncached tried × (length (message_bytes m) ≤ LARGEST)
Invokes m endpoints retries tried (Err (TooLong n)) = (tried ≡ []) × (LARGEST < length (message_bytes m)) × (n ≡ told (length (message_bytes m)))
Invokes m endpoints retries tried (Err Memory) =
    ClientStarved m retries tried × Each is_uncached tried × (tcp_at 0 endpoints ≡ None → tried ≡ []) × (length (message_bytes m) ≤ LARGEST)

-- the client connects next
abbrev pub goes_again : ClientAction → Bool
goes_again actions.Connect = true
goes_again actions.AwaitValidate = false
goes_again actions.Send = false
goes_again actions.AwaitReply = false
goes_again (actions.Finish attempt) = false
