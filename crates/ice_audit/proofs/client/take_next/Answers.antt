use Rattle.std.proofs.Common.{Option, Ok, subst}
use Rattle.ice_messages.specs.declared.message.Message.{Message}
use Rattle.ice_audit.specs.Readings.{FindsNext}
use Rattle.ice_audit.proofs.Faults.{next_count}
use Rattle.ice_audit.proofs.client.take_next.Goals as goal

pub hear-requires : goal.hear-requires
hear-requires c =
    let found = subst (λ (x : Option Message). FindsNext c.args.at c.args.frames.now.bytes c.next_message.new.frames (Ok x)) c.in-Some.is c.in_ok-next_message.ensures in
    next_count c.messages_exact.ensures.sort c.args.frames.now.bytes c.in-Some.message found.0 c.requires.2 found.1
