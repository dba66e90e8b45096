use Rattle.std.proofs.Common.{◌∙◌, sym, subst, ℕ}
use Rattle.dispatch_pool.specs.Sessions.{callers, HasServed}
use Rattle.dispatch_pool.proofs.worker.Worker.work_alone.Goals as goal

pub loop-preserved : goal.loop-preserved
loop-preserved g c =
    let i = c.loop.invariant in
    let more = c.in-Some-accept.ensures.some in (
      tt,
      tt,
      subst (λ (n : ℕ). HasServed callers c.args.lanes.now c.args.messages g.O.Opening.first g.O.Opening.passes (g.D.Tray.Tray.told c.serve.new.self.tray) c.serve.new.self.passes n c.serve.new.self.starved)
          (sym (c.serve.ensures.amount ∙ more.1)) (c.serve.ensures.did callers c.loop.self.mine.amount i.2),
      (c.serve.ensures.parts ∙ (c.accept.ensures.parts ∙ i.3)),
      (λ j k. c.serve.ensures.shares j k ∙ i.4 j k),
    )
