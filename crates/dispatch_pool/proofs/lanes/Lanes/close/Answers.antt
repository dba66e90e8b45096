use Rattle.std.proofs.Common.{sym, subst}
use Rattle.dispatch_pool.specs.Ends.{ClosesAll}
use Rattle.dispatch_pool.proofs.lanes.Lanes.close.Goals as goal

pub returns-in-Ok-clause-ok : goal.returns-in-Ok-clause-ok
returns-in-Ok-clause-ok c = subst (λ a. ClosesAll c.args.self c.args.passes a.servants) (sym c.from_parts.ensures) c.in-Ok.ensures.ok
