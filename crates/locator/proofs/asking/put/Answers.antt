use Rattle.std.proofs.Common.{[], ◌∷◌, refl}
use Rattle.std.proofs.lemmas.Result.{err_from_is_err_and}
use Rattle.locator.specs.Rounds.{round}
use Rattle.locator.proofs.Made.{made_nothing, made_round, made_untried}
use Rattle.locator.proofs.Questions.{made_call, made_no_call, refused_long, too_long_body, too_long_message, put_once}
use Rattle.locator.proofs.asking.put.Goals as goal

pub returns-in_err-call-clause-told : goal.returns-in_err-call-clause-told
returns-in_err-call-clause-told g c =
    let failed = err_from_is_err_and c.from_residual.result c.from_residual.ensures.1 in
    rw failed.1 ([], made_nothing (g.N.Net.told c.args.net.now) (g.N.Net.failures c.args.net.now), tt)

pub returns-in_default-clause-told : goal.returns-in_default-clause-told
returns-in_default-clause-told g c = (
  [],
  made_nothing (g.N.Net.told c.args.net.now) (g.N.Net.failures c.args.net.now),
  too_long_body c.args.locator.now c.args.retries c.args.key.now (made_no_call c.args.locator.now c.args.key.now _ c.in_default.is c.in_ok-call.ensures),
)

pub returns-in-Ok-clause-told : goal.returns-in-Ok-clause-told
returns-in-Ok-clause-told g c =
    let told = c.in-Ok.ensures.told in
    let call = made_call c.args.locator.now c.args.key.now _ c.in-Some.call c.in-Some.is c.in_ok-call.ensures in (
      round c.args.locator.now told.0 ∷ [],
      made_round c.args.locator.now told.0 (g.N.Net.told c.args.net.now) (g.N.Net.told c.invoke.new.net) (g.N.Net.failures c.args.net.now) (g.N.Net.failures c.invoke.new.net) told.1,
      put_once c.args.locator.now c.args.retries c.args.key.now c.in-Some.call told.0 c.in-Ok.invoked call.0 call.2 told.2,
    )

pub returns-in-Err-TooLong-clause-told : goal.returns-in-Err-TooLong-clause-told
returns-in-Err-TooLong-clause-told g c =
    let told = c.in-Err-TooLong.ensures.told in
    let call = made_call c.args.locator.now c.args.key.now _ c.in-Some.call c.in-Some.is c.in_ok-call.ensures in
    let long = refused_long c.in-Some.call c.args.locator.now.endpoints c.args.retries told.0 _ _ c.in-Err-TooLong.field-0-is told.2 in (
      [],
      made_untried c.args.locator.now told.0 (g.N.Net.told c.args.net.now) (g.N.Net.told c.invoke.new.net) (g.N.Net.failures c.args.net.now) (g.N.Net.failures c.invoke.new.net) long.0 told.1,
      too_long_message c.args.locator.now c.args.retries c.args.key.now c.in-Some.call call.0 long.1,
    )

pub returns-clause-told : goal.returns-clause-told
returns-clause-told g c =
    let told = c.in-Err-Memory.ensures.told in (
      round c.args.locator.now told.0 ∷ [],
      made_round c.args.locator.now told.0 (g.N.Net.told c.args.net.now) (g.N.Net.told c.invoke.new.net) (g.N.Net.failures c.args.net.now) (g.N.Net.failures c.invoke.new.net) told.1,
      ((refl, refl), tt),
    )
