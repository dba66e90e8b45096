use Rattle.std.proofs.Common.{◌-◌, ◌∙◌, sym, ap, List, ℕ}
use Rattle.ice_types.specs.Inherited.{bases_by_path, located}
use Rattle.ice_types.specs.Kept.{counted}
use Rattle.ice_types.proofs.ByPaths.{step_none, step_some, behind_first}
use Rattle.ice_types.proofs.inheritance.base_at.Goals as goal

pub returns-in_err-base : goal.returns-in_err-base
returns-in_err-base c =
    c.from_residual.ensures ∙ sym (step_none c.args.interfaces.now c.args.counts.now c.requires c.args.interface c.args.place
    (c.in_err-base.ensures.found ∙ ap (λ (l : List ℕ). located (counted c.args.counts.now) l c.args.place) c.bases_of.ensures))

pub loop-within-init : goal.loop-within-init
loop-within-init c = sym (step_some c.args.interfaces.now c.args.counts.now c.requires c.args.interface c.args.place c.in_ok-base.base c.in_ok-base.within
    (c.in_ok-base.ensures.found ∙ ap (λ (l : List ℕ). located (counted c.args.counts.now) l c.args.place) c.bases_of.ensures))

pub returns-in_err-base-2 : goal.returns-in_err-base-2
returns-in_err-base-2 c =
    let base = c.loop-within.base in
    let within = c.loop-within.within in
    c.from_residual-in_err-base-2.ensures ∙ sym (step_none c.args.interfaces.now c.args.counts.now c.requires base (within - 1)
    (c.in_err-base-2.ensures.found ∙ ap (λ (l : List ℕ). located (counted c.args.counts.now) l (within - 1)) c.bases_of-in-loop-within.ensures))
    ∙ sym (behind_first base (bases_by_path c.args.interfaces.now base) within c.loop-within-test.true) ∙ c.loop-within.invariant

pub loop-within-preserved : goal.loop-within-preserved
loop-within-preserved c =
    let base = c.loop-within.base in
    let within = c.loop-within.within in
    sym (step_some c.args.interfaces.now c.args.counts.now c.requires base (within - 1) c.in_ok-base-2.field-0-0 c.in_ok-base-2.field-0-1
    (c.in_ok-base-2.ensures.found ∙ ap (λ (l : List ℕ). located (counted c.args.counts.now) l (within - 1)) c.bases_of-in-loop-within.ensures))
    ∙ sym (behind_first base (bases_by_path c.args.interfaces.now base) within c.loop-within-test.true) ∙ c.loop-within.invariant
