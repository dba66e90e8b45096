use Rattle.std.proofs.Common.{[], pos}
use Rattle.std.specs.Prelude.{option_copied}
use Rattle.std.proofs.lemmas.Result.{err_from_is_err_and}
use Rattle.ice_messages.specs.declared.message.Message.TheVariants.{Request}
use Rattle.locator.specs.Through.{target}
use Rattle.locator.proofs.Made.{made_nothing}
use Rattle.locator.proofs.Delivering.{refused_through, starves_through, goes_through}
use Rattle.locator.proofs.through.call_through.Goals as goal

pub returns-in_err-outgoing-clause-told : goal.returns-in_err-outgoing-clause-told
returns-in_err-outgoing-clause-told g c =
    let failed = err_from_is_err_and c.from_residual.result c.from_residual.ensures.1 in
    rw (failed.1, failed.2) (
      [],
      made_nothing (g.N.Net.told c.args.net.now) (g.N.Net.failures c.args.net.now),
      refused_through (Request (pos 1) c.args.call.now) (target (option_copied c.args.locator) c.args.proxy.now c.args.retries) c.args.cache.now c.in_err-outgoing.field-0.0 c.in_err-outgoing.ensures,
    )

pub returns-in_err-deliver-clause-told : goal.returns-in_err-deliver-clause-told
returns-in_err-deliver-clause-told g c =
    let failed = err_from_is_err_and c.from_residual-in_err-deliver.result c.from_residual-in_err-deliver.ensures.1 in
    let told = c.in_err-deliver.ensures.told in
    let o = c.in_ok-outgoing.ensures in
    rw (failed.1, failed.2) (
      told.0,
      told.1,
      starves_through (Request (pos 1) c.args.call.now) c.in_ok-outgoing.outgoing o.0 (target (option_copied c.args.locator) c.args.proxy.now c.args.retries) c.args.cache.now told.0 c.deliver.new.cache o.1 told.2,
    )

pub returns-clause-told : goal.returns-clause-told
returns-clause-told g c =
    let told = c.in_ok-deliver.ensures.told in
    let o = c.in_ok-outgoing.ensures in (
      told.0,
      told.1,
      goes_through (Request (pos 1) c.args.call.now) c.in_ok-outgoing.outgoing o.0 (target (option_copied c.args.locator) c.args.proxy.now c.args.retries) c.args.cache.now told.0 c.deliver.new.cache c.in_ok-deliver.field-0 o.1 told.2,
    )
