use Rattle.std.proofs.Common.{◌≡◌}
use Rattle.dispatch_pool.specs.Sessions.{callers, HasServed}
use Rattle.dispatch_pool.specs.Shares.{SameShares}
use Rattle.dispatch_pool.proofs.worker.Worker.work_alone.Given as goal

abbrev pub invariant-loop : goal.invariant-loop
invariant-loop g l =
    (goal.iterator-loop g).can_next l.iterator' × (goal.iterator-loop g).is_finite l.iterator'
    × HasServed callers l.lanes l.messages g.O.Opening.first g.O.Opening.passes (g.D.Tray.Tray.told l.self.tray) l.self.passes l.self.mine.amount l.self.starved
    × (l.self.mine.parts ≡ l.initial.self.mine.parts)
    × SameShares l.initial.self.passes l.self.passes
