use Rattle.message_dump.proofs.Decided.{whole_refused, whole_finished}
use Rattle.message_dump.proofs.laws.reading_decides.Goals as goal

pub returns-clause-refused : goal.returns-clause-refused
returns-clause-refused c = whole_refused

pub returns-clause-finished : goal.returns-clause-finished
returns-clause-finished c = whole_finished
