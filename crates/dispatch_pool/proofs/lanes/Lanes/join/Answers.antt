use Rattle.std.proofs.Common.{subst, get_or, ◌∙◌, refl, sym, arith}
use Rattle.dispatch_pool.specs.Rows.{Fits, HasJoined}
use Rattle.dispatch_pool.specs.Lanes.{Stile}
use Rattle.dispatch_pool.proofs.Sets.{drop_next, three_step}
use Rattle.dispatch_pool.proofs.lanes.Lanes.join.Goals as goal

pub join_at-requires-clause-other : goal.join_at-requires-clause-other
join_at-requires-clause-other c t =
    let h = drop_next c.loop-i.i c.args.other.passes.items _ c.in-Some.pass (sym c.loop-i.invariant.1 ∙ c.in-Some.ensures.items) in
    let e = c.requires.other.one_each in
    subst (λ z. Fits (get_or c.args.self.now.stiles.items c.loop-i.i t) z) (h.1 c.in-Some.pass) (c.requires.other.each c.loop-i.i t c.in-Some.pass (let l = h.0 in omega arith))

pub loop-i-preserved : goal.loop-i-preserved
loop-i-preserved c =
    let i = c.loop-i.invariant in
    let rs = c.args.other.passes.items in
    let h = drop_next c.loop-i.i rs _ c.in-Some.pass (sym i.1 ∙ c.in-Some.ensures.items) in (
      c.join_at.ensures.of,
      h.2,
      three_step (λ k p r q. (t : Stile) → HasJoined (get_or c.args.self.now.stiles.items k t) p r q) c.args.passes.now.passes.items c.loop-i.passes.passes.items c.join_at.new.passes.passes.items rs rs c.loop-i.i c.in-Some.pass
          i.2 i.3 (λ k d lt. refl) h.1 c.join_at.ensures.others (λ d e t. c.join_at.ensures.joined t d e),
      λ k d le. c.join_at.ensures.others k d (omega arith) ∙ i.3 k d (omega arith),
    )

pub returns-clause-joined : goal.returns-clause-joined
returns-clause-joined c =
    let i = c.loop-i.invariant in let a = c.requires.of.one_each in let b = i.0.one_each in let o = c.requires.other.one_each in record {
      one_each = (o ∙ sym a, b ∙ sym a);
      each = λ k x y z lt. i.2 k x y z (let t = c.loop-i-test.false in let n = c.len-i-end.ensures in omega arith);
    }
