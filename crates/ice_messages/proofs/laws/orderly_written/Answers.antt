use Rattle.ice_messages.proofs.Writable.{orderly_writable, answer_writable, call_writable}
use Rattle.ice_messages.proofs.laws.orderly_written.Goals as goal

pub returns-clause-message : goal.returns-clause-message
returns-clause-message c = orderly_writable

pub returns-clause-answer : goal.returns-clause-answer
returns-clause-answer c = answer_writable

pub returns-clause-call : goal.returns-clause-call
returns-clause-call c = call_writable
