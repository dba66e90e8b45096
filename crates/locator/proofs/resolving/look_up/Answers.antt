use Rattle.std.proofs.Common.{refl, subst}
use Rattle.std.proofs.lemmas.Result.{err_from_is_err_and}
use Rattle.locator.specs.declared.key.Key.{Key}
use Rattle.locator.specs.Asking.{Finds}
use Rattle.locator.specs.Resolving.{got}
use Rattle.locator.proofs.Questions.{finds_at}
use Rattle.locator.proofs.Routes.{settled, failed_settled}
use Rattle.locator.proofs.resolving.look_up.Goals as goal

pub returns-in_err-found-clause-told : goal.returns-in_err-found-clause-told
returns-in_err-found-clause-told g c =
    let failed = err_from_is_err_and c.from_residual.result c.from_residual.ensures.1 in
    let told = c.in_err-found.ensures.told in
    rw failed.1 (told.0, told.1, (told.2, refl))

pub returns-clause-told : goal.returns-clause-told
returns-clause-told g c =
    let told = c.in_ok-found.ensures.told in
    let finds = subst (λ (k : Key). Finds c.args.locator.now c.args.retries k told.0 c.in_ok-found.found) c.requires told.2 in (
      told.0,
      told.1,
      settled c.args.locator.now c.args.cache.now c.args.proxy.now c.args.retries told.0 c.settle.new.cache c.in_ok-found.found (got c.settle.result) (finds_at c.args.locator.now c.args.retries c.args.key told.0 c.in_ok-found.found told.2) finds c.settle.ensures,
    )

pub returns-clause-fails : goal.returns-clause-fails
returns-clause-fails g c = failed_settled _ c.args.cache.now c.args.proxy.now c.settle.new.cache c.in_ok-found.found c.settle.result c.settle.ensures c.in_ok-found.ensures.fails
