use Rattle.std.proofs.Common.{ℕ, sym, ◌∙◌, None, Some, subst, Option}
use Rattle.slice_meaning.specs.Names.{declared_in}
use Rattle.slice_meaning.specs.Numbers.{scope_at, IsNumber}
use Rattle.slice_meaning.proofs.Lookup.{drop_at, inwards_next, inwards_none}
use Rattle.slice_meaning.proofs.scopes.Scopes.inwards.Goals as goal

pub returns-in-None : goal.returns-in-None
returns-in-None c =
    let i = c.loop-name.invariant in
    let ds = c.args.self.now in
    let w = c.as_str.result.now in
    let is : IsNumber ds None (declared_in ds w (scope_at ds c.loop-name.found)) = subst (λ (o : Option ℕ). IsNumber ds o (declared_in ds w (scope_at ds c.loop-name.found))) c.in-None.is c.in_scope.ensures.number in (
      sym (i.rest ∙ inwards_none ds c.args.names.now c.loop-name.name-index c.loop-name.found w
          (drop_at c.args.names.now c.loop-name.name-index c.name-item.result w c.loop-name-test.true c.name-item.is c.as_str.ensures) i.first i.within is),
      tt,
    )

pub loop-name-preserved : goal.loop-name-preserved
loop-name-preserved c =
    let i = c.loop-name.invariant in
    let ds = c.args.self.now in
    let w = c.as_str.result.now in
    let is : IsNumber ds (Some c.in-Some.inner) (declared_in ds w (scope_at ds c.loop-name.found)) = subst (λ (o : Option ℕ). IsNumber ds o (declared_in ds w (scope_at ds c.loop-name.found))) c.in-Some.is c.in_scope.ensures.number in
    record {
      first = is.1.0;
      within = is.1.1;
      rest = i.rest ∙ inwards_next ds c.args.names.now c.loop-name.name-index c.loop-name.found c.in-Some.inner w
          (drop_at c.args.names.now c.loop-name.name-index c.name-item.result w c.loop-name-test.true c.name-item.is c.as_str.ensures) i.first i.within is;
    }
