-- A stream of bytes as its whole messages, each with its length.
use Rattle.std.specs.Prelude.{ℕ, ◌≡◌, List, [], ◌∷◌, ◌++◌, length, Option, None}
use Rattle.ice_prims.specs.declared.fault.Fault.{Fault}
use Rattle.ice_messages.specs.declared.message.Message.{Message}
use Rattle.ice_messages.specs.Messages.{SpellsMessage}
use Rattle.ice_messages.specs.Streams.{StreamEnds}

-- a message with its length
abbrev pub Piece : Type 0
Piece = Message × ℕ

abbrev pub messages_of : List Piece → List Message
messages_of [] = []
messages_of (p ∷ ps) = p.0 ∷ messages_of ps

-- the bytes spell these messages, each as long as it is said to be, and then these are left
abbrev pub Pieces : List ℕ → List Piece → List ℕ → Type 0
Pieces bytes [] rest = bytes ≡ rest
Pieces bytes (p ∷ ps) rest =
    (first others : List ℕ) × (bytes ≡ first ++ others) × SpellsMessage first p.0 × (p.1 ≡ length first) × Pieces others ps rest

-- The bytes are these messages, and then none where what is left is the front of a message, else the first fault of what is left.
pub record IsRead (bytes : List ℕ) (ps : List Piece) (end : Option Fault) : Type 0 where
  pub rest : List ℕ
  pub spelled : Pieces bytes ps rest
  pub ends : StreamEnds rest end

-- both directions of a connection: whole messages, and then a message of which some bytes lack, or nothing
pub record AreWhole (client server : List ℕ) (asked sent : List Piece) : Type 0 where
  pub asked_whole : IsRead client asked None
  pub sent_whole : IsRead server sent None
