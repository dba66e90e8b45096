-- What is sent of a message that was written.
use Rattle.std.proofs.Common.{◌≡◌, ◌↔◌, ◌≤◌, List, ℕ, length, Ok, subst, arith}
use Rattle.std.specs.Prelude.{IsTrue}
use Rattle.ice_encoding.specs.declared.limits.TheConstants.{LARGEST}
use Rattle.ice_messages.specs.declared.message.Message.{Message}
use Rattle.ice_messages.specs.declared.message.TheConstants.{HEADER_BYTES}
use Rattle.ice_messages.specs.Messages.{SpellsMessage, message_bytes}
use Rattle.ice_messages.proofs.Streams.{message_long}
use Rattle.ice_client.specs.declared.outgoing.Outgoing.{Outgoing}
use Rattle.ice_client.specs.Sending.{asks_reply, IsIdempotent, Prepares}

pub prepared : (o : Outgoing) (m : Message) → o.replies ≡ asks_reply m → (IsTrue o.idempotent ↔ IsIdempotent m) → o.bytes ≡ message_bytes m → length o.bytes ≤ LARGEST → SpellsMessage o.bytes m → Prepares (Ok o) m
prepared o m replies idempotent is few spelled =
    let long : HEADER_BYTES ≤ length o.bytes = message_long o.bytes m spelled in
    (record { bytes_are = is; spelled = spelled; replies = replies; idempotent = idempotent }, subst (λ (z : List ℕ). length z ≤ LARGEST) is few, omega (arith, long))
