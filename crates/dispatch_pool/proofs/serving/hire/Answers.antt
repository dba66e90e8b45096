use Rattle.std.proofs.Common.{◌≡◌, arith}
use Rattle.dispatch_pool.specs.Sessions.{split_off, HasServed}
use Rattle.dispatch_pool.proofs.Shares.{all_push, split_shares}
use Rattle.dispatch_pool.proofs.Rows.{stays}
use Rattle.dispatch_pool.proofs.Working.{hired, push_all, push_length}
use Rattle.dispatch_pool.proofs.serving.hire.Goals as goal

pub loop-i-preserved : goal.loop-i-preserved
loop-i-preserved g c =
    let i = c.loop-i.invariant in let cut = c.split_off.ensures in let push = c.push_reserved.ensures in
    let e = push_length c.loop-i.workers.items _ _ push.items in (
      c.split.ensures.of,
      stays g.O.Opening.passes c.loop-i.passes c.split.new.passes c.in-Ok.theirs i.1 c.in-Ok.ensures.split,
      (let a = cut.parts_left in let b = i.2 in omega arith),
      (let a = cut.amount_left in let b = i.3 in omega arith),
      (let b = i.4 in omega arith),
      (let a = push.capacity in let b = i.5 in omega arith),
      push_all (λ w. HasServed split_off c.args.lanes.now c.args.messages g.O.Opening.first g.O.Opening.passes (g.D.Tray.Tray.told w.tray) w.passes w.mine.amount w.starved) c.loop-i.workers.items _ _ push.items i.6
          (hired c.args.lanes.now c.args.messages g.O.Opening.first g.O.Opening.passes 0 (g.D.Listener.told c.args.listener.now) (g.D.Tray.Tray.told c.tray.result) c.loop-i.passes c.split.new.passes c.in-Ok.theirs c.split_off.result.amount c.requires.tells c.tray.ensures c.in-Ok.ensures.ok_of i.1 c.in-Ok.ensures.split cut.amount),
      push_all (λ w. w.mine.parts ≡ 1) c.loop-i.workers.items _ _ push.items i.7 cut.parts,
      (λ j k.
          let before = i.8 j k in
          let last = all_push (λ w. w.passes) c.loop-i.workers.items _ _ push.items j k in
          let split = split_shares c.loop-i.passes c.split.new.passes c.in-Ok.theirs c.in-Ok.ensures.split j k in
          omega arith),
    )
