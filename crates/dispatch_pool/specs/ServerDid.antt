-- What a server did on one connection.
use Rattle.std.specs.Prelude.{ℕ, ◌≡◌, ◌≤◌, List, [], ◌∷◌, ◌++◌, length, Option, Some, None}
use Rattle.ice_encoding.specs.Parts.{Each}
use Rattle.ice_ports.specs.declared.talk.Talk.{Talk}
use Rattle.ice_messages.specs.declared.message.Message.{Message}
use Rattle.ice_messages.specs.declared.message.Message.TheVariants.{Validate}
use Rattle.ice_messages.specs.Streams.{Stream}
use Rattle.talking.specs.declared.end.End.{End}
use Rattle.talking.specs.Ends.{Shows, IsTaken, WasSaid}
use Rattle.dispatch_pool.specs.Handled.{Keys, Asked, Handled, AreOutcomes, asked, asking, reply_steps}

-- only at want of memory calls are left that were not handled
abbrev pub IsLeft : Option End → List Asked → Type 0
IsLeft None rest = Unit {0}
IsLeft (Some end) rest = rest ≡ []

-- WHAT A SERVER DID: its objects have these keys, it was to take so many messages at most, and this went over the link
pub record ServerDid (keys : Keys) (most : ℕ) (t : Talk) (handled : List Handled) (end : Option End) : Type 0 where
  -- the messages that were taken, in order, and the bytes behind them
  pub reads : List Message
  pub left : List ℕ
  pub stream : Stream t.given reads left
  pub few : length reads ≤ most
  pub going : Each IsTaken reads
  pub shows : Shows t left end
  -- their calls were handled, each once and in order
  pub rest : List Asked
  pub calls : asked reads ≡ asking handled ++ rest
  pub is_left : IsLeft end rest
  pub outcomes : AreOutcomes keys handled
  -- and this was said: validate, and the replies in order
  pub said : WasSaid end left (length reads) most ((Validate ∷ []) ∷ reply_steps handled) t.taken
