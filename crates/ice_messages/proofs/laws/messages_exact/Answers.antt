use Rattle.ice_messages.proofs.Whole.{message_found, message_only, message_sort}
use Rattle.ice_messages.proofs.laws.messages_exact.Goals as goal

pub returns-clause-found : goal.returns-clause-found
returns-clause-found c = message_found

pub returns-clause-only : goal.returns-clause-only
returns-clause-only c = message_only

pub returns-clause-sort : goal.returns-clause-sort
returns-clause-sort c = message_sort
