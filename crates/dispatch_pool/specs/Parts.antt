-- The parts of a session: the calls of a message, a message that is taken.
use Rattle.std.specs.Prelude.{ℕ, ◌≡◌, ◌≤◌, ◌⊎◌, Bool, true, List, [], ◌∷◌, ◌++◌, length, Option, Some, None, Result, Ok, Err}
use Rattle.turnstile.specs.declared.turned.Turned.{Ghosts}
use Rattle.turnstile.specs.declared.passes.Pass.{Pass}
use Rattle.ice_encoding.specs.Parts.{Each}
use Rattle.ice_ports.specs.declared.talk.Talk.{Talk}
use Rattle.ice_messages.specs.declared.message.Call.{Call}
use Rattle.ice_messages.specs.declared.message.Answer.{Answer}
use Rattle.ice_messages.specs.declared.message.Message.{Message}
use Rattle.ice_messages.specs.declared.message.Message.TheVariants.{Validate}
use Rattle.ice_messages.specs.Streams.{Stream}
use Rattle.talking.specs.Said.{all_of, IsSaid, Says, IsFine}
use Rattle.talking.specs.Ends.{Shows, IsTaken, IsSingle, EndsBy}
use Rattle.dispatch_pool.specs.declared.object.Object.{Object}
use Rattle.talking.specs.declared.end.End.{End}
use Rattle.dispatch_pool.specs.Rows.{RowGrew}
use Rattle.dispatch_pool.specs.Handled.{Keys, Outcome, Asked, Handled, IsOutcome, AreOutcomes, answer_of, turn_of, turns_of, asked, asking, reply_steps, replies}
use Rattle.dispatch_pool.specs.ServerDid.{ServerDid}

-- ---- what is left of a message's calls and replies

-- after a call that says nothing
abbrev pub said_by : {X E : Type 0} → Result X E → Result Bool E
said_by (Ok x) = Ok true
said_by (Err e) = Err e

-- only at want of memory calls are left
abbrev pub LeavesNone : {E : Type 0} → List Asked → Result Bool E → Type 0
LeavesNone rest (Ok went) = rest ≡ []
LeavesNone rest (Err e) = Unit {0}

abbrev pub IsNext : {E : Type 0} → Talk → List ℕ → List Message → List ℕ → List Asked → List (List Message) → Result (Option End) E → Type 0
IsNext t held reads left rest steps (Ok None) = (length reads ≡ 1) × (left ≡ held) × (rest ≡ []) × IsSaid (all_of steps) t.taken × IsFine t
IsNext t held reads left rest steps (Ok (Some end)) = Shows t left (Some end) × (rest ≡ []) × EndsBy end left reads steps t.taken
IsNext t held reads left rest steps (Err e) = (t.taken ≡ []) × IsFine t

module _ {g : Ghosts Object Call Answer} (keys : Keys) (ps qs : List (Pass Object Call Answer g)) where
  -- a call had a turn, or a refusal without one
  abbrev pub Called : Call → Answer → Type 0
  Called call answer = (o : Outcome) × (answer ≡ answer_of o) × IsOutcome keys call o × RowGrew ps qs (turn_of call o)

  -- these calls were handled, in order
  pub record Handling {E : Type 0} (asks : List Asked) (t : Talk) (r : Result Bool E) : Type 0 where
    pub handled : List Handled
    pub rest : List Asked
    pub calls : asks ≡ asking handled ++ rest
    pub left : LeavesNone rest r
    pub outcomes : AreOutcomes keys handled
    pub grew : RowGrew ps qs (turns_of handled)
    pub says : Says (replies handled) t r

  -- after validate so many messages were taken and their calls handled, and these bytes are held
  pub record Part (t : Talk) (held : List ℕ) (count : ℕ) : Type 0 where
    pub reads : List Message
    pub handled : List Handled
    pub stream : Stream t.given reads held
    pub long : length reads ≡ count
    pub going : Each IsTaken reads
    pub calls : asked reads ≡ asking handled
    pub outcomes : AreOutcomes keys handled
    pub grew : RowGrew ps qs (turns_of handled)
    pub said : IsSaid (Validate ∷ replies handled) t.taken
    pub fine : IsFine t

  -- so many messages were taken and their calls handled, or the connection ended before
  abbrev pub Took : {E : Type 0} → (most : ℕ) → Talk → List ℕ → Result (Option End) E → Type 0
  Took most t held (Ok None) = Part t held most
  Took most t held (Ok (Some end)) = (handled : List Handled) × RowGrew ps qs (turns_of handled) × ServerDid keys most t handled (Some end)
  Took most t held (Err e) = (handled : List Handled) × RowGrew ps qs (turns_of handled) × ServerDid keys most t handled None

  -- of these bytes a message was taken and its calls handled, or the connection ends
  pub record Next {E : Type 0} (t : Talk) (bytes held : List ℕ) (r : Result (Option End) E) : Type 0 where
    pub reads : List Message
    pub left : List ℕ
    pub handled : List Handled
    pub rest : List Asked
    pub stream : Stream bytes reads left
    pub few : length reads ≤ 1
    pub going : Each IsTaken reads
    pub single : IsSingle (reply_steps handled)
    pub calls : asked reads ≡ asking handled ++ rest
    pub outcomes : AreOutcomes keys handled
    pub grew : RowGrew ps qs (turns_of handled)
    pub how : IsNext t held reads left rest (reply_steps handled) r
