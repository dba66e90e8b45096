use Rattle.std.proofs.Common.{◌∙◌, refl, sym, ap, subst, arith, [], ◌∷◌, length, length-append}
use Rattle.turnstile.specs.Passes.{IsWhole, Strays}
use Rattle.dispatch_pool.specs.Rows.{Fits}
use Rattle.dispatch_pool.specs.Ends.{ClosesWith}
use Rattle.dispatch_pool.proofs.Sets.{drop_next, beside_here, three_more, as_two}
use Rattle.dispatch_pool.proofs.lanes.Lanes.close_all.Goals as goal

pub close-requires-after_bounds : goal.close-requires-after_bounds
close-requires-after_bounds c κs =
    let i = c.loop-i.invariant in let t = c.in-Some.stile in let p = c.in-Some-next.pass in
    let a = drop_next c.loop-i.i c.args.stiles.items _ t (sym i.0 ∙ c.in-Some.ensures.items) in
    let b = drop_next c.loop-i.i c.args.passes.items _ p (sym i.1 ∙ c.in-Some-next.ensures.items) in
    (beside_here (λ k x y. Fits x y) c.args.stiles.items c.args.passes.items c.loop-i.i t p c.requires.of a.0 a.1 b.1).of

pub loop-i-preserved : goal.loop-i-preserved
loop-i-preserved c =
    let i = c.loop-i.invariant in let t = c.in-Some.stile in let p = c.in-Some-next.pass in let object = c.in-Ok.object in
    let a = drop_next c.loop-i.i c.args.stiles.items _ t (sym i.0 ∙ c.in-Some.ensures.items) in
    let b = drop_next c.loop-i.i c.args.passes.items _ p (sym i.1 ∙ c.in-Some-next.ensures.items) in
    let push = c.push_reserved.ensures in (
      a.2,
      b.2,
      three_more (λ k x y z. ClosesWith x y z) c.loop-i.i c.args.stiles.items c.args.passes.items c.loop-i.servants.items _ object.servant push.items i.3 i.2
          (λ x y. as_two (λ m n. ClosesWith m n object.servant) (a.1 x) (b.1 y) (object, c.in-Ok.ensures.ok, refl)),
      (let e = ap length push.items in let l = length-append c.loop-i.servants.items (object.servant ∷ []) in let n = i.3 in omega arith),
      (let m = push.capacity in let q = i.4 in omega arith),
    )

pub returns-in-Err-clause-err : goal.returns-in-Err-clause-err
returns-in-Err-clause-err c =
    let i = c.loop-i.invariant in let t = c.in-Some.stile in let p = c.in-Some-next.pass in
    let a = drop_next c.loop-i.i c.args.stiles.items _ t (sym i.0 ∙ c.in-Some.ensures.items) in
    let b = drop_next c.loop-i.i c.args.passes.items _ p (sym i.1 ∙ c.in-Some-next.ensures.items) in
    (a.0, (λ x y. as_two (λ m n. Strays m n c.in-Err.stray) (a.1 x) (b.1 y) c.in-Err.ensures.err), (c.loop-i.servants.items, i.2))

pub returns-in-Err-clause-whole : goal.returns-in-Err-clause-whole
returns-in-Err-clause-whole c = λ w.
    let i = c.loop-i.invariant in let p = c.in-Some-next.pass in
    let b = drop_next c.loop-i.i c.args.passes.items _ p (sym i.1 ∙ c.in-Some-next.ensures.items) in
    c.in-Err.ensures.whole (subst (λ z. IsWhole z) (b.1 p) (w c.loop-i.i p b.0))

pub returns-clause-ok : goal.returns-clause-ok
returns-clause-ok c =
    let i = c.loop-i.invariant in let t = c.loop-i-test.false in let n = c.len-count.ensures in let e = c.loop-i.auto.i-end in let m = i.3 in
    (omega arith, λ k x y z lt. i.2 k x y z (omega arith))
