use Rattle.message_dump.proofs.OneDump.{some_dump}
use Rattle.message_dump.proofs.laws.dumps_all.Goals as goal

pub returns : goal.returns
returns c = some_dump
