-- The parts of a session: the answer of a request, a message that is taken.
use Rattle.std.specs.Prelude.{ℕ, ◌≡◌, ◌≤◌, Bool, List, [], ◌∷◌, ◌++◌, length, Option, Some, None, Result, Ok, Err}
use Rattle.ice_encoding.specs.Parts.{Each}
use Rattle.ice_ports.specs.declared.talk.Talk.{Talk}
use Rattle.ice_messages.specs.declared.message.Answer.{Answer}
use Rattle.ice_messages.specs.declared.message.Message.{Message}
use Rattle.ice_messages.specs.declared.message.Message.TheVariants.{Validate}
use Rattle.ice_messages.specs.Streams.{Stream}
use Rattle.ice_client.specs.declared.outcome.Outcome.{Outcome}
use Rattle.ice_client.specs.ClientDid.{Tried, ClientDid, is_uncached}
use Rattle.talking.specs.declared.end.End.{End}
use Rattle.talking.specs.Said.{all_of, IsSaid, IsFine, Says}
use Rattle.talking.specs.Ends.{Shows, IsTaken, EndsBy}
use Rattle.ice_gateway.specs.Gate.{Gate}
use Rattle.ice_gateway.specs.Handled.{Handled, Invocation, WasHandled, WasForwarded, WasStarved, DueStarved, AreLeft, messages, outcome_of, run_of, runs_of, reply_steps, replies}

-- ---- one message

-- a message was tried, and came to this
abbrev pub CameTo : Gate → Message → List (List Tried) → Outcome → Type 0
CameTo gate m runs outcome = (tried : List Tried) × (runs ≡ tried ∷ []) × ClientDid m gate.retries tried (Some outcome) × Each is_uncached tried

-- so it was, or memory ran out
abbrev pub Tries : {E : Type 0} → Gate → Message → List (List Tried) → Result Outcome E → Type 0
Tries gate m runs (Ok outcome) = CameTo gate m runs outcome
Tries gate m runs (Err e) = WasStarved gate m runs

-- the message that is due was tried, or none is due
abbrev pub Passed : Gate → Option Message → List (List Tried) → Type 0
Passed gate due runs = (i : Option Invocation) × (runs ≡ run_of i) × WasForwarded gate due i

-- so it was, or memory ran out
abbrev pub Passes : {X E : Type 0} → Gate → Option Message → List (List Tried) → Result X E → Type 0
Passes gate due runs (Ok x) = Passed gate due runs
Passes gate due runs (Err e) = DueStarved gate due runs

-- and this is the answer of a request of such a call
abbrev pub Answers : {E : Type 0} → Gate → Option Message → (Option Outcome → Answer → Type 0) → List (List Tried) → Result Answer E → Type 0
Answers gate due Is runs (Ok answer) = (i : Option Invocation) × (runs ≡ run_of i) × WasForwarded gate due i × Is (outcome_of i) answer
Answers gate due Is runs (Err e) = DueStarved gate due runs

-- only at want of memory the message was not handled
abbrev pub Leaves : {E : Type 0} → Gate → List Message → List (List Tried) → Result Bool E → Type 0
Leaves gate rest cut (Ok went) = (rest ≡ []) × (cut ≡ [])
Leaves gate rest cut (Err e) = AreLeft gate rest cut

-- the message was handled, and its reply said
pub record Handling {E : Type 0} (gate : Gate) (m : Message) (runs : List (List Tried)) (t : Talk) (r : Result Bool E) : Type 0 where
  pub handled : List Handled
  pub rest : List Message
  pub cut : List (List Tried)
  pub taken : m ∷ [] ≡ messages handled ++ rest
  pub did : Each (WasHandled gate) handled
  pub invoked : runs ≡ runs_of handled ++ cut
  pub left : Leaves gate rest cut r
  pub says : Says (replies handled) t r

-- ---- what is left of a message

abbrev pub IsNext : {E : Type 0} → Gate → Talk → List ℕ → List Message → List ℕ → List Message → List (List Tried) → List (List Message) → Result (Option End) E → Type 0
IsNext gate t held reads left rest cut steps (Ok None) = (length reads ≡ 1) × (left ≡ held) × (rest ≡ []) × (cut ≡ []) × IsSaid (all_of steps) t.taken × IsFine t
IsNext gate t held reads left rest cut steps (Ok (Some end)) = Shows t left (Some end) × (rest ≡ []) × (cut ≡ []) × EndsBy end left reads steps t.taken
IsNext gate t held reads left rest cut steps (Err e) = AreLeft gate rest cut × (t.taken ≡ []) × IsFine t

-- of these bytes a message was taken and handled by these attempts, or the connection ends
pub record Next {E : Type 0} (gate : Gate) (runs : List (List Tried)) (t : Talk) (bytes held : List ℕ) (r : Result (Option End) E) : Type 0 where
  pub reads : List Message
  pub left : List ℕ
  pub handled : List Handled
  pub rest : List Message
  pub cut : List (List Tried)
  pub stream : Stream bytes reads left
  pub few : length reads ≤ 1
  pub going : Each IsTaken reads
  pub taken : reads ≡ messages handled ++ rest
  pub did : Each (WasHandled gate) handled
  pub invoked : runs ≡ runs_of handled ++ cut
  pub how : IsNext gate t held reads left rest cut (reply_steps handled) r

-- after validate so many messages were taken and handled, and these bytes are held
pub record Part (gate : Gate) (runs : List (List Tried)) (t : Talk) (held : List ℕ) (count : ℕ) : Type 0 where
  pub reads : List Message
  pub handled : List Handled
  pub stream : Stream t.given reads held
  pub long : length reads ≡ count
  pub going : Each IsTaken reads
  pub taken : reads ≡ messages handled
  pub did : Each (WasHandled gate) handled
  pub invoked : runs ≡ runs_of handled
  pub said : IsSaid (Validate ∷ replies handled) t.taken
  pub fine : IsFine t
