use Rattle.object_adapter.proofs.Short.{fault_reply}
use Rattle.object_adapter.proofs.telling.tell.Goals as goal

pub returns-in-BadArguments-clause-writable : goal.returns-in-BadArguments-clause-writable
returns-in-BadArguments-clause-writable c = fault_reply c.args.call.now c.in-BadArguments.fault c.failed_at.result c.failed_at.ensures.short c.failed_at.ensures.failed
