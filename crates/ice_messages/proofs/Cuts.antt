-- Every proper front of a message's bytes is a front: nothing is wrong in it, and it is no message.
use Rattle.std.proofs.Common.{◌≡◌, ℕ, pos, ◌+◌, ◌≤◌, List, ◌++◌, length, sym, subst, inl, inr, arith}
use Rattle.std.proofs.lemmas.Bool.{cases_lt}
use Rattle.std.proofs.lemmas.List.{length-append}
use Rattle.ice_messages.specs.declared.message.Message.{Message}
use Rattle.ice_messages.specs.declared.message.TheConstants.{HEADER_BYTES}
use Rattle.ice_messages.specs.Messages.{header, SpellsMessage}
use Rattle.ice_messages.specs.Streams.{IsFront}
use Rattle.ice_messages.proofs.Called.{begins}
use Rattle.ice_messages.proofs.Whole.{header_long}
use Rattle.ice_messages.proofs.Streams.{message_long}

pub message_cut : (bytes more : List ℕ) (m : Message) → SpellsMessage (bytes ++ more) m → 1 ≤ length more → IsFront bytes
message_cut bytes more m h some =
    let head = h.1 in
    let long = header_long head _ h.4 in
    let all : length (bytes ++ more) ≡ length bytes + length more = length-append bytes more in
    elim (cases_lt (length bytes) HEADER_BYTES) [
      | inl few ↦
          let c = begins bytes more head h.2 h.3 (omega (arith, few, long)) in
          inl (c.0, h.0, pos (length (bytes ++ more)), few, subst (λ (z : List ℕ). header.Spells z (h.0, pos (length (bytes ++ more)))) c.1 h.4)
      | inr enough ↦
          let c = begins head h.2 bytes more (sym h.3) (omega (arith, enough, long)) in
          inr (head, c.0, h.0, length (bytes ++ more), c.1, h.4, message_long (bytes ++ more) m h, h.5, omega (arith, all, some))
    ]
