use Rattle.std.proofs.Common.{◌≡◌, false, true, sym, ◌∙◌}
use Rattle.graph_json.proofs.Sound.{named_next, named_whole, one_not_named}
use Rattle.graph_json.proofs.text.all_named.Goals as goal

pub returns : goal.returns
returns c = (λ yes. named_whole c.args.count c.args.instances.now c.loop-instance.instance-index c.loop-instance-test.false c.loop-instance.invariant, λ h. cc)

pub returns-then-not-branch : goal.returns-then-not-branch
returns-then-not-branch c = (
  λ no. absurd cc,
  λ h. absurd (one_not_named c.args.count c.args.instances.now c.loop-instance.instance-index c.instance-item.result c.loop-instance-test.true c.instance-item.is
      (λ below. never (sym c.if-not-branch.true ∙ c.in_ok-are_named.ensures.1 (rw c.as_slice.ensures below))) h),
)
  where
    never : false ≡ true → ⊥
    never e = cc

pub loop-instance-preserved : goal.loop-instance-preserved
loop-instance-preserved c =
    named_next c.args.count c.args.instances.now c.loop-instance.instance-index c.instance-item.result c.loop-instance-test.true c.instance-item.is c.loop-instance.invariant
    (rw (← c.as_slice.ensures) (c.in_ok-are_named.ensures.0 c.if-not-branch.false))
