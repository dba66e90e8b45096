use Rattle.message_dump.proofs.OneDump.{one_dump}
use Rattle.message_dump.proofs.laws.dumps_apart.Goals as goal

pub returns : goal.returns
returns c = one_dump
