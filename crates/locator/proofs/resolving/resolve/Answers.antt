use Rattle.std.proofs.Common.{◌≡◌, [], List, Some, None, true, subst}
use Rattle.std.proofs.lemmas.Result.{err_from_is_err_and}
use Rattle.std.specs.Prelude.{IfOk, option_copied}
use Rattle.ice_types.specs.declared.proxy.Endpoint.{Endpoint}
use Rattle.locator.specs.declared.resolving.Resolved.{Resolved}
use Rattle.locator.specs.declared.resolving.Resolved.TheVariants.{Direct}
use Rattle.locator.specs.Resolving.{placed, got}
use Rattle.locator.proofs.Made.{made_nothing}
use Rattle.locator.proofs.Routes.{starved, by_its_own, by_kept, by_beyond, not_none, none_then, kept_at}
use Rattle.locator.proofs.resolving.resolve.Goals as goal

pub returns-then-not-is_empty-clause-told : goal.returns-then-not-is_empty-clause-told
returns-then-not-is_empty-clause-told g c = (
  [],
  made_nothing (g.N.Net.told c.args.net.now) (g.N.Net.failures c.args.net.now),
  by_its_own c.args.cache.now (option_copied c.args.locator) c.args.proxy.now c.args.retries c.own.result (not_none c.if-not-is_empty.ensures) c.own.ensures,
)

pub returns-in_err-key-clause-told : goal.returns-in_err-key-clause-told
returns-in_err-key-clause-told g c =
    let failed = err_from_is_err_and c.from_residual.result c.from_residual.ensures.1 in
    rw failed.1 (
      [],
      made_nothing (g.N.Net.told c.args.net.now) (g.N.Net.failures c.args.net.now),
      starved c.args.cache.now (option_copied c.args.locator) c.args.proxy.now c.args.retries,
    )

pub returns-in-Some-clause-told : goal.returns-in-Some-clause-told
returns-in-Some-clause-told g c =
    let direct = subst (λ (es : List Endpoint). IfOk c.direct.result (λ (r : Resolved). r ≡ Direct (placed c.args.proxy.now es) true)) c.as_slice.ensures c.direct.ensures in (
      [],
      made_nothing (g.N.Net.told c.args.net.now) (g.N.Net.failures c.args.net.now),
      by_kept c.args.cache.now (option_copied c.args.locator) c.args.proxy.now c.args.retries c.in-Some.endpoints.now c.direct.result (none_then c.if-not-is_empty.ensures)
          (kept_at c.in_ok-key.key c.args.proxy.now c.args.cache.now (Some c.in-Some.endpoints.now) c.in-Some.ensures c.in_ok-key.ensures) direct,
    )

pub returns-clause-told : goal.returns-clause-told
returns-clause-told g c =
    let told = c.not_kept.ensures.told in (
      told.0,
      told.1,
      by_beyond c.args.cache.now (option_copied c.args.locator) c.args.proxy.now c.args.retries told.0 c.not_kept.new.cache (got c.not_kept.result) (none_then c.if-not-is_empty.ensures)
          (kept_at c.in_ok-key.key c.args.proxy.now c.args.cache.now None c.in_default.ensures c.in_ok-key.ensures) told.2,
    )
