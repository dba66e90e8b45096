use Rattle.ice_messages.proofs.Streams.{messages_apart, message_long}
use Rattle.ice_messages.proofs.laws.messages_apart.Goals as goal

pub returns-clause-apart : goal.returns-clause-apart
returns-clause-apart c = messages_apart

pub returns-clause-long : goal.returns-clause-long
returns-clause-long c = message_long
