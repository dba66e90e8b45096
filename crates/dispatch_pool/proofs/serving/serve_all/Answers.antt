use Rattle.dispatch_pool.proofs.Shares.{still_whole}
use Rattle.dispatch_pool.proofs.serving.serve_all.Goals as goal

pub returns-clause-whole : goal.returns-clause-whole
returns-clause-whole g c whole = still_whole c.args.lanes.now c.args.passes c.serve_under.result.passes c.requires.of c.serve_under.ensures.done.of c.serve_under.ensures.shares whole
