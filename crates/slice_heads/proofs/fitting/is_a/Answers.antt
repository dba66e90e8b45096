use Rattle.std.proofs.Common.{ℕ, ◌≡◌, ◌∙◌, ◌-◌, suc, ap, sym, arith}
use Rattle.ice_encoding.specs.Classes.{leads_to}
use Rattle.slice_heads.proofs.Chains.{leads_here, leads_on, leads_nowhere, leads_no_further}
use Rattle.slice_heads.proofs.fitting.is_a.Goals as goal

pub returns-then-left-eq0 : goal.returns-then-left-eq0
returns-then-left-eq0 c =
    sym (leads_no_further c.args.schema.now c.args.base c.loop-class.class c.loop-class-test.true)
    ∙ ap (λ (n : ℕ). leads_to c.args.schema.now (suc n) c.args.base c.loop-class.class) (sym c.if-left-eq0.true) ∙ c.loop-class.invariant.so_far

pub loop-class-preserved : goal.loop-class-preserved
loop-class-preserved c =
    let on = leads_on c.args.schema.now c.loop-class.left c.args.base c.loop-class.class c.in-Some.next c.loop-class-test.true (sym c.base_of.ensures ∙ c.in-Some.is) in
    let e : suc (c.loop-class.left - 1) ≡ c.loop-class.left = omega (arith, c.if-left-eq0.false) in
    record { so_far = ap (λ (n : ℕ). leads_to c.args.schema.now n c.args.base c.in-Some.next) e ∙ sym on ∙ c.loop-class.invariant.so_far }

pub returns-in-None : goal.returns-in-None
returns-in-None c = sym (leads_nowhere c.args.schema.now c.loop-class.left c.args.base c.loop-class.class c.loop-class-test.true (sym c.base_of.ensures ∙ c.in-None.is)) ∙ c.loop-class.invariant.so_far

pub returns : goal.returns
returns c = sym (leads_here c.args.schema.now c.loop-class.left c.args.base c.loop-class.class c.loop-class-test.false) ∙ c.loop-class.invariant.so_far
