use Rattle.std.proofs.Common.{◌∙◌, sym, ap, arith, length, length-append, [], ◌∷◌}
use Rattle.dispatch_pool.specs.Rows.{Fits, HasSplit}
use Rattle.dispatch_pool.proofs.Sets.{three_step, both_more, push_same, push_here}
use Rattle.dispatch_pool.proofs.lanes.Lanes.split.Goals as goal

pub loop-i-preserved : goal.loop-i-preserved
loop-i-preserved c =
    let i = c.loop-i.invariant in let did = c.split_at-pass.ensures in let r = c.split_at-pass.result in
    let made = c.loop-i.made.items in let more = c.push_reserved.new.self.items in
    let push = c.push_reserved.ensures.items in let long = i.4 in (
      did.of,
      three_step (λ k p s q. HasSplit p s q) c.args.passes.now.passes.items c.loop-i.passes.passes.items c.split_at-pass.new.passes.passes.items made more c.loop-i.i r
          i.1 i.2 (λ k d lt. push_same made more r push k d (omega arith)) (push_here made more r push c.loop-i.i i.4) did.others did.split,
      (λ k d le. did.others k d (omega arith) ∙ i.2 k d (omega arith)),
      both_more (λ k t p. Fits t p) c.loop-i.i c.args.self.now.stiles.items made more r push i.4 i.3 did.made,
      (let h = ap length push in let l = length-append made (r ∷ []) in omega arith),
      (let m = c.push_reserved.ensures.capacity in let q = i.5 in omega arith),
    )

pub returns-clause-split : goal.returns-clause-split
returns-clause-split c =
    let i = c.loop-i.invariant in let a = c.requires.one_each in let b = i.0.one_each in let long = i.4 in
    let t = c.loop-i-test.false in let n = c.len-i-end.ensures in let e = c.loop-i.auto.i-end in record {
      one_each = (omega arith, b ∙ sym a);
      each = λ k x y z lt. i.1 k x y z (omega arith);
    }
