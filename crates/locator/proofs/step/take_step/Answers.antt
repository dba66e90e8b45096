use Rattle.std.proofs.Common.{◌++◌, Some, inl, refl, subst}
use Rattle.std.proofs.lemmas.Result.{err_from_is_err_and}
use Rattle.locator.specs.declared.key.Key.{Key}
use Rattle.locator.specs.declared.resolving.Resolved.{Resolved}
use Rattle.locator.specs.Resolving.{Resolves, got}
use Rattle.locator.specs.Steps.{target_of, AttemptsAt}
use Rattle.locator.proofs.Made.{made_then}
use Rattle.locator.proofs.Stepping.{steps_on, failed_behind}
use Rattle.locator.proofs.step.take_step.Goals as goal

pub returns-in_err-resolved-clause-told : goal.returns-in_err-resolved-clause-told
returns-in_err-resolved-clause-told g c =
    let failed = err_from_is_err_and c.from_residual.result c.from_residual.ensures.1 in
    let told = c.in_err-resolved.ensures.told in
    rw failed.1 (told.0, told.1, inl told.2)

pub returns-in-Direct-clause-told : goal.returns-in-Direct-clause-told
returns-in-Direct-clause-told g c =
    let one = c.in_ok-resolved.ensures.told in
    let two = c.attempt_at.ensures.told in
    let t = target_of c.args.target in
    let resolved = subst (λ (r : Resolved). Resolves c.args.cache.now t.locator t.proxy t.retries one.0 c.resolve.new.cache (Some r)) c.in-Direct.is one.2 in
    let did = subst (λ (k : Key). AttemptsAt c.in-Direct.proxy c.in-Direct.cached k c.args.outgoing.now c.args.number c.args.client.now c.attempt_at.new.client c.resolve.new.cache two.0 c.attempt_at.new.cache (got c.attempt_at.result)) c.requires.key two.2 in (
      one.0 ++ two.0,
      made_then one.0 two.0 _ _ _ _ _ _ one.1 two.1,
      steps_on t c.args.outgoing.now c.args.number c.args.client.now c.attempt_at.new.client c.args.cache.now c.resolve.new.cache c.attempt_at.new.cache one.0 two.0 c.in-Direct.proxy c.in-Direct.cached (got c.attempt_at.result) resolved did,
    )

pub returns-in-Direct-clause-fails : goal.returns-in-Direct-clause-fails
returns-in-Direct-clause-fails g c =
    let one = c.in_ok-resolved.ensures.told in
    failed_behind one.0 _ _ _ _ _ c.attempt_at.result one.1 c.attempt_at.ensures.fails

pub returns-in-Unknown-clause-told : goal.returns-in-Unknown-clause-told
returns-in-Unknown-clause-told g c =
    let one = c.in_ok-resolved.ensures.told in
    let t = target_of c.args.target in
    (one.0, one.1, (subst (λ (r : Resolved). Resolves c.args.cache.now t.locator t.proxy t.retries one.0 c.resolve.new.cache (Some r)) c.in-Unknown.is one.2, refl))

pub returns-in-Failed-clause-told : goal.returns-in-Failed-clause-told
returns-in-Failed-clause-told g c =
    let one = c.in_ok-resolved.ensures.told in
    let t = target_of c.args.target in
    (one.0, one.1, (subst (λ (r : Resolved). Resolves c.args.cache.now t.locator t.proxy t.retries one.0 c.resolve.new.cache (Some r)) c.in-Failed.is one.2, refl))
