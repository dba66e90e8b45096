use Rattle.std.proofs.Common.{◌∙◌, sym, subst, ℕ}
use Rattle.dispatch_pool.specs.Sessions.{split_off, HasServed}
use Rattle.dispatch_pool.proofs.worker.Worker.work.Goals as goal

pub loop-preserved : goal.loop-preserved
loop-preserved g c =
    let i = c.loop.invariant in
    let more = c.in-Some-next.ensures.some in (
      tt,
      tt,
      subst (λ (n : ℕ). HasServed split_off c.args.lanes.now c.args.messages g.O.Opening.first g.O.Opening.passes (g.D.Tray.Tray.told c.serve.new.self.tray) c.serve.new.self.passes n c.serve.new.self.starved)
          (sym (c.serve.ensures.amount ∙ more.1)) (c.serve.ensures.did split_off c.loop.self.mine.amount i.2),
      (c.serve.ensures.parts ∙ (c.accept-next.ensures.parts ∙ i.3)),
      (λ j k. c.serve.ensures.shares j k ∙ i.4 j k),
    )
