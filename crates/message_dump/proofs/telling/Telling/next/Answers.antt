use Rattle.std.proofs.Common.{Ok, Err, Option, subst, arith}
use Rattle.ice_prims.specs.declared.fault.ReadFault.{ReadFault}
use Rattle.ice_messages.specs.declared.message.Message.{Message}
use Rattle.ice_messages.specs.Framing.{NextOf}
use Rattle.message_dump.proofs.Taking.{given, takes, place_fits}
use Rattle.message_dump.proofs.telling.Telling.next.Goals as goal

pub overflow_sub-length : goal.overflow_sub-length
overflow_sub-length c =
    let next = subst (λ (x : Option Message). NextOf c.args.self.now.frames c.next.new.self (Ok x)) c.in-Ok-Some.field-0-is c.in-Ok-Some.ensures in
    omega (arith, (given c.args.self.now.frames c.next.new.self c.in-Ok-Some.message c.requires.fits next).total, c.held-held.ensures, c.held.ensures)

pub overflow_add-self-in-Ok-Some : goal.overflow_add-self-in-Ok-Some
overflow_add-self-in-Ok-Some c =
    let next = subst (λ (x : Option Message). NextOf c.args.self.now.frames c.next.new.self (Ok x)) c.in-Ok-Some.field-0-is c.in-Ok-Some.ensures in
    let g = given c.args.self.now.frames c.next.new.self c.in-Ok-Some.message c.requires.fits next in
    omega (arith, g.total, g.small, c.requires.few, c.requires.near, c.held-held.ensures, c.held.ensures)

pub refused-requires-in-Err-Broken : goal.refused-requires-in-Err-Broken
refused-requires-in-Err-Broken c =
    place_fits c.args.self.now c.next.new.self c.in-Err-Broken.fault c.requires
    (subst (λ (x : ReadFault). NextOf c.args.self.now.frames c.next.new.self (Err x)) c.in-Err-Broken.field-0-is c.in-Err-Broken.ensures)

pub returns-in-Ok-Some : goal.returns-in-Ok-Some
returns-in-Ok-Some c =
    takes c.args.self.now c.held-held.result c.held.result c.next.new.self c.in-Ok-Some.message c.requires c.if-self-eq-MOST_MESSAGES.false c.held-held.ensures c.held.ensures
    (subst (λ (x : Option Message). NextOf c.args.self.now.frames c.next.new.self (Ok x)) c.in-Ok-Some.field-0-is c.in-Ok-Some.ensures)
