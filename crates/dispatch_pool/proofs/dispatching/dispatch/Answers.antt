use Rattle.dispatch_pool.proofs.Results.{err_either}
use Rattle.dispatch_pool.proofs.Turning.{row_still}
use Rattle.dispatch_pool.proofs.dispatching.dispatch.Goals as goal

pub returns-in-NoObject-clause-err : goal.returns-in-NoObject-clause-err
returns-in-NoObject-clause-err g c = err_either c.missed.result _ (row_still c.args.passes.now.passes.items)
