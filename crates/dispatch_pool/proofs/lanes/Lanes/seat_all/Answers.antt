use Rattle.std.proofs.Common.{◌≡◌, ◌∙◌, sym, ap, arith, [], ◌∷◌, length, length-append}
use Rattle.std.specs.Vec.Iter.{into_iter_items}
use Rattle.turnstile.specs.Passes.{own, IsWhole}
use Rattle.dispatch_pool.specs.declared.object.Object.{Object}
use Rattle.dispatch_pool.specs.Rows.{Fits}
use Rattle.dispatch_pool.specs.Lanes.{Begins}
use Rattle.dispatch_pool.proofs.Growing.{fits_first}
use Rattle.dispatch_pool.proofs.Sets.{drop_next, both_more, beside_more, every_more}
use Rattle.dispatch_pool.proofs.lanes.Lanes.seat_all.Goals as goal

pub loop-i-preserved : goal.loop-i-preserved
loop-i-preserved c =
    let i = c.loop-i.invariant in
    let t = c.in_ok-stile.stile in let p = c.in_ok-stile.pass in
    let given = into_iter_items c.args.servants.now in
    let h = drop_next c.loop-i.i given _ c.in-Some.servant (sym i.4 ∙ c.in-Some.ensures.items) in
    let stiles = c.push_reserved.ensures.items in let passes = c.push_reserved-in-loop-i.ensures.items in
    let made = c.in_ok-stile.ensures in (
      both_more Begins c.loop-i.i given _ _ t stiles i.5 i.0 (λ s. ap (λ (o : Object). o.servant) made.opening ∙ sym (h.1 s)),
      beside_more (λ n a b. Fits a b) _ _ _ _ t p stiles passes i.1 (fits_first t p made.pass made.empty.0),
      every_more (λ z. own z ≡ []) _ _ p passes i.2 made.empty.1,
      every_more (λ z. IsWhole z) _ _ p passes i.3 made.whole,
      h.2,
      (let e = ap length stiles in let l = length-append c.loop-i.stiles.items (t ∷ []) in let n = i.5 in omega arith),
      (let e = ap length passes in let l = length-append c.loop-i.passes.items (p ∷ []) in let n = i.6 in omega arith),
      (let m = c.push_reserved.ensures.capacity in let q = i.7 in omega arith),
      (let m = c.push_reserved-in-loop-i.ensures.capacity in let q = i.8 in omega arith),
    )
