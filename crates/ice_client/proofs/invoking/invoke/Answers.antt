use Rattle.std.proofs.Common.{pos, ◌≡◌, ◌∙◌, ap}
use Rattle.std.specs.Prelude.{Err}
use Rattle.std.proofs.lemmas.Result.{err_from_is_err_and}
use Rattle.ice_messages.specs.declared.fault.WriteFault.{WriteFault}
use Rattle.ice_messages.specs.declared.fault.WriteFault.TheVariants.{Memory}
use Rattle.ice_messages.specs.declared.message.Message.TheVariants.{Request}
use Rattle.ice_client.proofs.Delivering.{starves}
use Rattle.ice_client.proofs.invoking.invoke.Goals as goal

pub returns-in_err-deliver-clause-told : goal.returns-in_err-deliver-clause-told
returns-in_err-deliver-clause-told g c =
    let told = c.in_err-deliver.ensures.told in
    let prepared = c.in_ok-outgoing.ensures in
    let failed = err_from_is_err_and c.from_residual-in_err-deliver.result c.from_residual-in_err-deliver.ensures.1 in
    let is : c.from_residual-in_err-deliver.result ≡ Err Memory = failed.1 ∙ ap (λ (e : WriteFault). Err e) failed.2 in
    rw is (told.0, told.1, starves (Request (pos 1) c.args.call.now) c.in_ok-outgoing.outgoing c.args.proxy.now.endpoints c.args.retries told.0 c.in_err-deliver.field-0.0 prepared.0 prepared.1 told.2)
