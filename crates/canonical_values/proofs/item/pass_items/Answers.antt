use Rattle.std.proofs.Common.{arith, ◌≡◌, ◌-◌, ◌+◌, ℕ, sym, subst}
use Rattle.std.proofs.lemmas.List.{take_rest, length-drop}
use Rattle.canonical_values.specs.Frames.{ItemsPassed}
use Rattle.canonical_values.proofs.Passed.{items_none, items_one_more}
use Rattle.canonical_values.proofs.item.pass_items.Goals as goal

pub loop-done-init : goal.loop-done-init
loop-done-init c =
    let e : c.args.count - 0 ≡ c.args.count = omega arith in
    record { within = omega arith; passed = subst (λ (m : ℕ). ItemsPassed c.args.schema.now c.args.input.now c.args.kind c.args.count c.args.start m c.args.start) (sym e) (items_none c.args.schema.now c.args.input.now c.args.kind c.args.count c.args.start (omega arith)) }

pub loop-done-preserved : goal.loop-done-preserved
loop-done-preserved c =
    let t = c.args.schema.now in
    let input = c.args.input.now in
    let e : (c.args.count - c.loop-done.done) - 1 ≡ c.args.count - (c.loop-done.done + 1) = omega arith in
    let few = rw (take_rest input c.loop-done.at) at c.in-Some.ensures.within in
    record {
      within = omega (arith, few, length-drop c.loop-done.at input);
      passed = subst (λ (m : ℕ). ItemsPassed t input c.args.kind c.args.count c.args.start m (c.loop-done.at + c.in-Some.length)) e
          (items_one_more t input c.args.kind c.args.count c.args.start (c.args.count - c.loop-done.done) c.loop-done.at c.in-Some.length (omega arith) (omega arith) few (rw (take_rest input c.loop-done.at) at c.in-Some.ensures.stands) c.loop-done.invariant.passed);
    }

pub returns : goal.returns
returns c =
    let e : c.args.count - c.loop-done.done ≡ 0 = omega arith in
    subst (λ (m : ℕ). ItemsPassed c.args.schema.now c.args.input.now c.args.kind c.args.count c.args.start m c.loop-done.at) e c.loop-done.invariant.passed
