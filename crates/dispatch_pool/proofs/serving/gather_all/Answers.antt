use Rattle.std.proofs.Common.{◌≡◌, ◌∙◌, refl, sym, subst, ap, arith, ℕ, [], ◌∷◌, length, length-append}
use Rattle.std.specs.Prelude.{◌||◌}
use Rattle.dispatch_pool.specs.Sessions.{split_off, HasServed, AllServed}
use Rattle.talking.proofs.Told.{none_gathered}
use Rattle.dispatch_pool.proofs.Shares.{all_push, join_shares}
use Rattle.dispatch_pool.proofs.Working.{or_false, pop_front, pop_last, worker_done}
use Rattle.dispatch_pool.proofs.serving.gather_all.Goals as goal

pub loop-worker-init : goal.loop-worker-init
loop-worker-init g c = (c.requires.done.1.of, refl, refl, (λ n. n), refl, c.requires.each, c.requires.parts_each, (λ given a. a), (λ e. e), (λ i k. refl))

pub join-requires-clause-other : goal.join-requires-clause-other
join-requires-clause-other g c =
    (pop_last (λ w. HasServed split_off c.args.lanes.now c.args.messages g.O.Opening.first g.O.Opening.passes (g.D.Tray.Tray.told w.tray) w.passes w.mine.amount w.starved)
    c.loop-worker.workers.items _ c.in-Some.worker c.in-Some.ensures.items c.loop-worker.invariant.5).of

pub loop-worker-preserved : goal.loop-worker-preserved
loop-worker-preserved g c =
    let i = c.loop-worker.invariant in
    let all = c.in-Some.ensures.items in
    let h = pop_last (λ w. HasServed split_off c.args.lanes.now c.args.messages g.O.Opening.first g.O.Opening.passes (g.D.Tray.Tray.told w.tray) w.passes w.mine.amount w.starved)
    c.loop-worker.workers.items _ c.in-Some.worker all i.5 in
    let one = pop_last (λ w. w.mine.parts ≡ 1) c.loop-worker.workers.items _ c.in-Some.worker all i.6 in
    let merge = c.merge.ensures in (
      c.join.ensures.of,
      c.gather.ensures.count ∙ i.1,
      c.gather.ensures.nones ∙ i.2,
      (λ n. none_gathered (g.D.Listener.told c.loop-worker.listener) _ _ c.gather.ensures.told (i.3 n)),
      (let a = ap length all in let l = length-append c.pop.new.self.items (c.in-Some.worker ∷ []) in let p = merge.parts in let r = i.4 in omega arith),
      pop_front (λ w. HasServed split_off c.args.lanes.now c.args.messages g.O.Opening.first g.O.Opening.passes (g.D.Tray.Tray.told w.tray) w.passes w.mine.amount w.starved)
          c.loop-worker.workers.items _ c.in-Some.worker all i.5,
      pop_front (λ w. w.mine.parts ≡ 1) c.loop-worker.workers.items _ c.in-Some.worker all i.6,
      (λ given a.
          subst (λ (n : ℕ). AllServed c.args.lanes.now c.args.messages g.O.Opening.first g.O.Opening.passes given (g.D.Listener.told c.gather.new.self) c.join.new.passes n (c.loop-worker.starved || c.in-Some.worker.starved))
          (sym merge.amount)
          (worker_done c.args.lanes.now c.args.messages g.O.Opening.first g.O.Opening.passes given (g.D.Listener.told c.loop-worker.listener) _ _ c.loop-worker.passes c.in-Some.worker.passes c.join.new.passes _ _ c.loop-worker.starved c.in-Some.worker.starved
          c.gather.ensures.told c.join.ensures.of c.join.ensures.joined (i.7 given a) h)),
      (λ e. i.8 (or_false c.loop-worker.starved c.in-Some.worker.starved e).0),
      (λ j k.
          let before = i.9 j k in
          let last = all_push (λ w. w.passes) c.pop.new.self.items c.loop-worker.workers.items c.in-Some.worker all j k in
          let joined = join_shares c.args.lanes.now c.loop-worker.passes c.in-Some.worker.passes c.join.new.passes i.0 c.join.ensures.joined j k in
          omega arith),
    )
