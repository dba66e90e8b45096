-- What is sent of a message. (Ice manual, "Request Message" and "Automatic Retries".)
use Rattle.std.specs.Prelude.{pos, negsuc, zero, suc, ◌≡◌, ◌≢◌, ◌≤◌, ◌<◌, ◌↔◌, Bool, true, false, [], length, Result, Ok, Err, IsTrue}
use Rattle.ice_encoding.specs.declared.limits.TheConstants.{LARGEST}
use Rattle.ice_encoding.specs.Parts.{Each}
use Rattle.ice_messages.specs.declared.fault.WriteFault.{WriteFault}
use Rattle.ice_messages.specs.declared.fault.WriteFault.TheVariants.{TooLong, Memory}
use Rattle.ice_messages.specs.declared.message.Call.{Call}
use Rattle.ice_messages.specs.declared.message.Message.{Message}
use Rattle.ice_messages.specs.declared.message.Message.TheVariants.{Request, Batch, Reply, Validate, Close}
use Rattle.ice_messages.specs.Messages.{SpellsMessage, message_bytes}
use Rattle.ice_messages.specs.Written.{told}
use Rattle.ice_client.specs.declared.outgoing.Outgoing.{Outgoing}

-- a request with an id other than 0 asks for a reply
abbrev pub asks_reply : Message → Bool
asks_reply (Request (pos zero) call) = false
asks_reply (Request (pos (suc n)) call) = true
asks_reply (Request (negsuc n) call) = true
asks_reply (Batch calls) = false
asks_reply (Reply id answer) = false
asks_reply Validate = false
asks_reply Close = false

-- nonmutating or idempotent
abbrev pub IsRepeatable : Call → Type 0
IsRepeatable call = 0 < call.mode

-- each call of the message may be dispatched again
abbrev pub IsIdempotent : Message → Type 0
IsIdempotent (Request id call) = IsRepeatable call
IsIdempotent (Batch calls) = Each IsRepeatable calls
IsIdempotent (Reply id answer) = Unit {0}
IsIdempotent Validate = Unit {0}
IsIdempotent Close = Unit {0}

-- what is sent of the message: the bytes that are put for it, which spell it
pub record IsOf (o : Outgoing) (m : Message) : Type 0 where
  pub bytes_are : o.bytes ≡ message_bytes m
  pub spelled : SpellsMessage o.bytes m
  pub replies : o.replies ≡ asks_reply m
  pub idempotent : IsTrue o.idempotent ↔ IsIdempotent m

-- a request or calls for which no reply comes
abbrev pub IsOneway : Message → Type 0
IsOneway (Request id call) = id ≡ pos 0
IsOneway (Batch calls) = calls ≢ []
IsOneway (Reply id answer) = ⊥
IsOneway Validate = ⊥
IsOneway Close = ⊥

-- what is sent of the message, or that it is too long, with its length
abbrev pub Prepares : Result Outgoing WriteFault → Message → Type 0
Prepares (Ok o) m = IsOf o m × (length (message_bytes m) ≤ LARGEST) × (0 < length o.bytes)
Prepares (Err (TooLong n)) m = (LARGEST < length (message_bytes m)) × (n ≡ told (length (message_bytes m)))
Prepares (Err Memory) m = length (message_bytes m) ≤ LARGEST
