use Rattle.std.proofs.Common.{length, pos, sym, ap, ◌∙◌}
use Rattle.ice_messages.specs.declared.message.Message.{Message}
use Rattle.ice_messages.specs.Messages.{message_bytes}
use Rattle.ice_messages.specs.Written.{told}
use Rattle.call_command.proofs.Repeating.{asked_for, unasked}
use Rattle.call_command.proofs.messages.message_length.Goals as goal

pub returns-in-0 : goal.returns-in-0
returns-in-0 c = c.request_length.ensures (pos 1) ∙ sym (ap (λ (m : Message). told (length (message_bytes m))) (asked_for c.args.mode c.args.times c.args.call.now c.in-0.is))

pub returns-in-1 : goal.returns-in-1
returns-in-1 c = c.request_length-in-1.ensures (pos 0) ∙ sym (ap (λ (m : Message). told (length (message_bytes m))) (unasked c.args.mode c.args.times c.args.call.now c.in-1.is))
