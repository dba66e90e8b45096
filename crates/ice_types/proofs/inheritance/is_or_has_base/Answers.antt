use Rattle.std.proofs.Common.{ℕ, ◌≡◌, ◌∙◌, true, Option, Some, None, refl, sym, ap, subst, arith}
use Rattle.std.proofs.lemmas.Bool.{eqb-true}
use Rattle.std.specs.Option.{option_eq}
use Rattle.std.specs.Prelude.{nat_eq}
use Rattle.ice_types.specs.Inherited.{InterfaceIsA, Here}
use Rattle.ice_types.proofs.ByPaths.{has_base, lacks_base}
use Rattle.ice_types.proofs.inheritance.is_or_has_base.Goals as goal

some_by_test : (found : Option ℕ) (base : ℕ) → option_eq nat_eq found (Some base) ≡ true → found ≡ Some base
some_by_test None base e = absurd cc
some_by_test (Some x) base e = ap Some (eqb-true x base e)

pub returns-then-interface-base : goal.returns-then-interface-base
returns-then-interface-base c =
    (λ _. subst (λ (x : ℕ). InterfaceIsA c.args.interfaces.now c.args.interface x) c.if-interface-base.true (Here c.args.interface), λ _. refl)

pub returns-then-eq : goal.returns-then-eq
returns-then-eq c =
    let found = some_by_test c.base_at.result c.args.base (sym c.eq.ensures ∙ c.if-eq.true) in
    (λ _. has_base c.args.interfaces.now c.args.counts.now c.requires c.args.interface c.loop-place.place c.args.base (sym c.base_at.ensures ∙ found), λ _. refl)

pub returns : goal.returns
returns c = (
  λ e. absurd cc,
  λ h. absurd (lacks_base c.args.interfaces.now c.args.counts.now c.requires c.args.interface c.args.base c.counted-place-end.result c.counted-place-end.ensures
      (λ e. c.if-interface-base.false (sym e)) (λ k lt. c.loop-place.invariant k (omega (arith, lt, c.loop-place-test.false))) h),
)
