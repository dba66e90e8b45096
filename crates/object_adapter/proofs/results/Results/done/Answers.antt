use Rattle.object_adapter.proofs.Short.{done_replies}
use Rattle.object_adapter.proofs.results.Results.done.Goals as goal

pub returns-clause-writable : goal.returns-clause-writable
returns-clause-writable c = done_replies c.self.inside.bytes c.self.invariant
