use Rattle.std.proofs.Common.{sym, ap}
use Rattle.talking.specs.Ends.{end_behind_reply}
use Rattle.talking.proofs.end.end_behind_reply.Goals as goal

pub returns-then-went : goal.returns-then-went
returns-then-went c = sym (ap end_behind_reply c.if-went.true)

pub returns-else-went : goal.returns-else-went
returns-else-went c = sym (ap end_behind_reply c.if-went.false)
