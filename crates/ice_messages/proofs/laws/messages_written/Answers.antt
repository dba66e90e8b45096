use Rattle.ice_messages.proofs.Whole.{message_put, message_shortest}
use Rattle.ice_messages.proofs.laws.messages_written.Goals as goal

pub returns-clause-spelled : goal.returns-clause-spelled
returns-clause-spelled c = message_put

pub returns-clause-shortest : goal.returns-clause-shortest
returns-clause-shortest c = message_shortest
