-- What is known of the message or the fault that stands next.
use Rattle.std.proofs.Common.{◌≡◌, ℕ, pos, List, length, Option, None, Some, Ok, Err, subst, arith}
use Rattle.std.specs.Prelude.{FitsSigned}
use Rattle.std.specs.Int.{w32}
use Rattle.ice_prims.specs.declared.fault.Fault.{Fault}
use Rattle.ice_prims.specs.Rest.{Rest, IsBytes}
use Rattle.ice_prims.proofs.Parts.{IsBytes-front}
use Rattle.ice_messages.specs.declared.message.Message.{Message}
use Rattle.ice_messages.specs.declared.message.Message.TheVariants.{Request, Batch, Reply, Validate, Close}
use Rattle.ice_messages.specs.Messages.{SpellsMessage, IsMessage}
use Rattle.ice_messages.specs.Streams.{next_at}
use Rattle.ice_messages.specs.Framing.{Held, IsFaultOf}
use Rattle.ice_messages.proofs.Runs.{next_spelled}
use Rattle.ice_audit.specs.Posing.{HasCount}

-- a reader that has not stopped tells the fault of its bytes
pub fault_next : (old : Held) (fault : Fault) → old.stopped ≡ None → IsFaultOf old fault → next_at old.bytes ≡ Err fault
fault_next old fault running h = subst (λ (o : Option Fault). IsFaultOf (record { bytes = old.bytes; stopped = o }) fault) running h

has_count : (m : Message) → IsMessage m → HasCount m
has_count (Request id c) h = tt
has_count (Batch calls) h = let fits : FitsSigned w32 (pos (length calls)) = h.0.0.0 in omega (arith, fits)
has_count (Reply id a) h = tt
has_count Validate h = tt
has_count Close h = tt

-- a batch has no more calls than its count tells
pub next_count : ((bytes : List ℕ) (m : Message) → IsBytes bytes → SpellsMessage bytes m → IsMessage m)
    → (bytes : List ℕ) (m : Message) (rest : Rest) → IsBytes bytes → next_at bytes ≡ Ok (Some (m, rest)) → HasCount m
next_count sort bytes m rest fits e =
    let s = next_spelled bytes m rest fits e in
    has_count m (sort s.0 m (IsBytes-front s.0 rest.bytes (subst IsBytes s.1 fits)) s.2)
