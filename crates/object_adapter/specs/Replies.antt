-- Of which answers a reply can be written.
use Rattle.std.specs.Prelude.{ℕ, ℤ, ◌≤◌, List, length}
use Rattle.ice_encoding.specs.declared.limits.TheConstants.{LARGEST}
use Rattle.ice_messages.specs.declared.message.Call.{Call}
use Rattle.ice_messages.specs.declared.message.Answer.{Answer}
use Rattle.ice_messages.specs.declared.message.Message.{Message}
use Rattle.ice_messages.specs.declared.message.Message.TheVariants.{Request, Reply}
use Rattle.ice_messages.specs.Messages.{SpellsMessage, message_bytes}
use Rattle.ice_messages.specs.Written.{IsAnswer}

-- it is no longer than a message may be
abbrev pub KeepsLimit : Message → Type 0
KeepsLimit m = length (message_bytes m) ≤ LARGEST

-- so is each reply with the answer
abbrev pub IsReply : Answer → Type 0
IsReply answer = IsAnswer answer × ((id : ℤ) → KeepsLimit (Reply id answer))

-- so is each reply with the answer to a call that came in a message; one that is not there is named in it again
abbrev pub CanReply : Call → Answer → Type 0
CanReply call answer = IsAnswer answer × ((bytes : List ℕ) (asked replied : ℤ) → SpellsMessage bytes (Request asked call) → KeepsLimit (Reply replied answer))
