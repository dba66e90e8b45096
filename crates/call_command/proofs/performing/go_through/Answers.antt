use Rattle.call_command.proofs.Delivering.{goes_so, twoway_is, writable_call, oneway_else}
use Rattle.std.proofs.Common.{refl}
use Rattle.std.specs.Prelude.{option_copied}
use Rattle.call_command.proofs.performing.go_through.Goals as goal

pub call_through-requires-after_bounds : goal.call_through-requires-after_bounds
call_through-requires-after_bounds g c κs within = writable_call c.args.plan.now.message c.in-Some.call.now c.requires.writable c.in-Some.ensures

pub returns-in-Some-clause-told : goal.returns-in-Some-clause-told
returns-in-Some-clause-told g c =
    let told = c.call_through.ensures.told in (
      told.0,
      told.1,
      goes_so c.args.plan.now.message _ (option_copied c.as_ref-locator.result) c.args.plan.now.callee.now.locator c.args.plan.now.callee.now.proxy c.args.plan.now.retries c.args.cache.now told.0 c.call_through.new.cache c.call_through.result
          (twoway_is c.args.plan.now.message c.in-Some.call.now c.in-Some.ensures) c.as_ref-locator.ensures.value told.2,
    )

pub send_through-requires-clause-oneway : goal.send_through-requires-clause-oneway
send_through-requires-clause-oneway g c κs within = oneway_else c.args.plan.now.message c.requires.sent c.in-None.ensures

pub returns-in-None-clause-told : goal.returns-in-None-clause-told
returns-in-None-clause-told g c =
    let told = c.send_through.ensures.told in (
      told.0,
      told.1,
      goes_so c.args.plan.now.message c.args.plan.now.message (option_copied c.as_ref-locator.result) c.args.plan.now.callee.now.locator c.args.plan.now.callee.now.proxy c.args.plan.now.retries c.args.cache.now told.0 c.send_through.new.cache c.send_through.result
          refl c.as_ref-locator.ensures.value told.2,
    )
