use Rattle.std.proofs.Common.{Err, subst, arith}
use Rattle.ice_prims.specs.declared.fault.ReadFault.{ReadFault}
use Rattle.ice_messages.specs.Framing.{NextOf}
use Rattle.ice_messages.proofs.Faults.{fault_stands}
use Rattle.ice_audit.proofs.Faults.{fault_next}
use Rattle.ice_audit.proofs.stream.next_message.Goals as goal

-- a fault lies within the largest message
pub overflow_add-result : goal.overflow_add-result
overflow_add-result c =
    let next = subst (λ (x : ReadFault). NextOf c.args.frames.now c.next.new.self (Err x)) c.in-Err-Broken.field-0-is c.in-Err-Broken.ensures in
    let near = (fault_stands c.args.frames.now.bytes c.in-Err-Broken.fault (fault_next c.args.frames.now c.in-Err-Broken.fault c.requires.0 next.0)).near in
    let room = c.requires.1 in
    omega arith
