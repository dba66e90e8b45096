-- What stands next, by what the bytes are: a front, a message that is spelled, or a defect.
use Rattle.std.proofs.Common.{◌≡◌, ℕ, List, length, drop, Option, None, Some, Result, Ok, Err, ap, arith}
use Rattle.std.proofs.lemmas.List.{length-append, length-drop}
use Rattle.ice_prims.specs.declared.fault.ReadFault.{ReadFault}
use Rattle.ice_prims.specs.declared.fault.ReadFault.TheVariants as faults
use Rattle.ice_prims.specs.Rest.{IsBytes, after, whole}
use Rattle.ice_messages.specs.declared.message.Message.{Message}
use Rattle.ice_messages.specs.Next.{StandsNext, IsNext}
use Rattle.ice_messages.proofs.Streams.{next_front}
use Rattle.ice_messages.proofs.Runs.{next_spelled}
use Rattle.ice_messages.proofs.FirstFaults.{answered_defect}

pub known_next : (r : Result (Option (Message × ℕ)) ReadFault) (bytes : List ℕ) → IsBytes bytes → StandsNext r bytes → IsNext r bytes
known_next (Ok None) bytes fits h = (h, next_front bytes fits h)
known_next (Ok (Some x)) bytes fits h =
    let s = next_spelled bytes x.0 (after (whole bytes) x.1) fits h.0 in
    let long : x.1 ≡ length s.0 = omega (arith, h.1, ap length s.1, length-append s.0 (drop x.1 bytes), length-drop x.1 bytes) in
    (h, s.0, s.1, long, s.2)
known_next (Err (faults.Broken fault)) bytes fits h = (h, answered_defect bytes fault fits h)
known_next (Err faults.Memory) bytes fits h = h
