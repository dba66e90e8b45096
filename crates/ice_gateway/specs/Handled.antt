-- Messages that were handled: how each was forwarded, and what was answered.
use Rattle.std.specs.Prelude.{ℤ, pos, negsuc, zero, suc, ◌≡◌, ◌⊎◌, List, [], ◌∷◌, ◌++◌, map, Option, Some, None}
use Rattle.ice_encoding.specs.Parts.{Each}
use Rattle.ice_messages.specs.declared.message.Call.{Call}
use Rattle.ice_messages.specs.declared.message.Answer.{Answer}
use Rattle.ice_messages.specs.declared.message.Message.{Message}
use Rattle.ice_messages.specs.declared.message.Message.TheVariants.{Request, Batch, Reply, Validate, Close}
use Rattle.talking.specs.Said.{all_of}
use Rattle.ice_client.specs.declared.outcome.Outcome.{Outcome}
use Rattle.ice_client.specs.ClientDid.{Tried, ClientDid, ClientStarved, is_uncached}
use Rattle.ice_gateway.specs.Gate.{Gate}
use Rattle.ice_gateway.specs.Mapped.{Mapped}
use Rattle.ice_gateway.specs.Forwarded.{forwarded}

-- a message as it was sent, the attempts at it, and what it came to
pub record Invocation : Type 0 where
  pub message : Message
  pub tried : List Tried
  pub outcome : Outcome

-- a message that came, its invocation, where it was forwarded, and its reply, where one is asked for
pub record Handled : Type 0 where
  pub message : Message
  pub invocation : Option Invocation
  pub replies : List Message

-- it is what a client did to have the message answered or sent
abbrev pub WasInvoked : Gate → Message → Invocation → Type 0
WasInvoked gate m i = (i.message ≡ m) × ClientDid m gate.retries i.tried (Some i.outcome) × Each is_uncached i.tried

-- one invocation of the message that is due, or none where none is due
abbrev pub WasForwarded : Gate → Option Message → Option Invocation → Type 0
WasForwarded gate None None = Unit {0}
WasForwarded gate None (Some i) = ⊥
WasForwarded gate (Some m) None = ⊥
WasForwarded gate (Some m) (Some i) = WasInvoked gate m i

-- memory ran out before the attempts at the message, in the last of them, or behind them
abbrev pub WasStarved : Gate → Message → List (List Tried) → Type 0
WasStarved gate m runs = (runs ≡ [])
    ⊎ ((tried : List Tried) × (runs ≡ tried ∷ []) × Each is_uncached tried × (ClientStarved m gate.retries tried ⊎ ((outcome : Outcome) × ClientDid m gate.retries tried (Some outcome))))

-- so it was of the message that is due; where none is due there was no attempt
abbrev pub DueStarved : Gate → Option Message → List (List Tried) → Type 0
DueStarved gate None runs = runs ≡ []
DueStarved gate (Some m) runs = WasStarved gate m runs

abbrev pub outcome_of : Option Invocation → Option Outcome
outcome_of None = None
outcome_of (Some i) = Some i.outcome

-- the reply with this id
abbrev pub Answered : Gate → ℤ → Call → Option Outcome → List Message → Type 0
Answered gate id c outcome replies = (answer : Answer) × (replies ≡ Reply id answer ∷ []) × Mapped gate c outcome answer

-- a request is answered, where its id is not 0
abbrev pub WasAnswered : Gate → Message → Option Outcome → List Message → Type 0
WasAnswered gate (Request (pos zero) c) outcome replies = replies ≡ []
WasAnswered gate (Request (pos (suc n)) c) outcome replies = Answered gate (pos (suc n)) c outcome replies
WasAnswered gate (Request (negsuc n) c) outcome replies = Answered gate (negsuc n) c outcome replies
WasAnswered gate (Batch cs) outcome replies = replies ≡ []
WasAnswered gate (Reply id answer) outcome replies = replies ≡ []
WasAnswered gate Validate outcome replies = replies ≡ []
WasAnswered gate Close outcome replies = replies ≡ []

abbrev pub WasHandled : Gate → Handled → Type 0
WasHandled gate h = WasForwarded gate (forwarded gate h.message) h.invocation × WasAnswered gate h.message (outcome_of h.invocation) h.replies

-- no message or one was not handled, since memory ran out: these are the attempts at it
abbrev pub AreLeft : Gate → List Message → List (List Tried) → Type 0
AreLeft gate [] runs = runs ≡ []
AreLeft gate (m ∷ []) runs = DueStarved gate (forwarded gate m) runs
AreLeft gate (m ∷ n ∷ ms) runs = ⊥

-- ---- of messages that were handled, in order

abbrev pub messages : List Handled → List Message
messages [] = []
messages (h ∷ hs) = h.message ∷ messages hs

-- the attempts of an invocation
abbrev pub run_of : Option Invocation → List (List Tried)
run_of None = []
run_of (Some i) = i.tried ∷ []

abbrev pub runs_of : List Handled → List (List Tried)
runs_of [] = []
runs_of (h ∷ hs) = run_of h.invocation ++ runs_of hs

-- those of each message, or none
abbrev pub reply_steps : List Handled → List (List Message)
reply_steps = map (λ (h : Handled). h.replies)

abbrev pub replies : List Handled → List Message
replies handled = all_of (reply_steps handled)
