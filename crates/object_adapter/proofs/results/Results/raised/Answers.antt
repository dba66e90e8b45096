use Rattle.object_adapter.proofs.Short.{raised_replies}
use Rattle.object_adapter.proofs.results.Results.raised.Goals as goal

pub returns-clause-writable : goal.returns-clause-writable
returns-clause-writable c = raised_replies c.self.inside.bytes c.self.invariant
