-- What a gateway did on one connection.
use Rattle.std.specs.Prelude.{ℕ, ◌≡◌, ◌≤◌, ◌⊎◌, List, [], ◌∷◌, ◌++◌, length, Option, Some, None}
use Rattle.ice_encoding.specs.Parts.{Each}
use Rattle.ice_ports.specs.declared.talk.Talk.{Talk}
use Rattle.ice_messages.specs.declared.message.Message.{Message}
use Rattle.ice_messages.specs.declared.message.Message.TheVariants.{Validate}
use Rattle.ice_messages.specs.Streams.{Stream}
use Rattle.ice_client.specs.ClientDid.{Tried}
use Rattle.talking.specs.declared.end.End.{End}
use Rattle.talking.specs.Said.{IsSaid}
use Rattle.talking.specs.Ends.{Shows, IsTaken, WasSaid}
use Rattle.ice_gateway.specs.Gate.{Gate}
use Rattle.ice_gateway.specs.Handled.{Handled, WasHandled, AreLeft, messages, runs_of, reply_steps, replies}

-- only at want of memory the last message was not handled
abbrev pub IsLeft : Gate → Option End → List Message → List (List Tried) → Type 0
IsLeft gate None rest cut = AreLeft gate rest cut
IsLeft gate (Some end) rest cut = (rest ≡ []) × (cut ≡ [])

-- WHAT A GATEWAY DID on a connection over which this went: it was to take so many messages at most, and these are the
-- attempts that it made at servers, message by message
pub record GateDid (gate : Gate) (most : ℕ) (t : Talk) (runs : List (List Tried)) (end : Option End) : Type 0 where
  -- the messages that were taken, in order, and the bytes behind them
  pub reads : List Message
  pub left : List ℕ
  pub stream : Stream t.given reads left
  pub few : length reads ≤ most
  pub going : Each IsTaken reads
  pub shows : Shows t left end
  -- each was handled, once and in order
  pub handled : List Handled
  pub rest : List Message
  pub taken : reads ≡ messages handled ++ rest
  pub did : Each (WasHandled gate) handled
  -- by these attempts
  pub cut : List (List Tried)
  pub invoked : runs ≡ runs_of handled ++ cut
  pub is_left : IsLeft gate end rest cut
  -- where one is left, the replies before it were said
  pub unhandled : (rest ≡ []) ⊎ IsSaid (Validate ∷ replies handled) t.taken
  -- and this was said: validate, and the replies in order
  pub said : WasSaid end left (length reads) most ((Validate ∷ []) ∷ reply_steps handled) t.taken
