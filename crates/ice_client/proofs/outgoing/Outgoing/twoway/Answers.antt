use Rattle.std.proofs.Common.{pos, refl, true}
use Rattle.ice_messages.specs.declared.message.Message.TheVariants.{Request}
use Rattle.ice_client.proofs.Preparing.{prepared}
use Rattle.ice_client.proofs.outgoing.Outgoing.twoway.Goals as goal

pub returns : goal.returns
returns c =
    let wrote = c.in_ok-write_request.ensures in
    prepared (record { bytes = c.in_ok-write_request.field-0; replies = true; idempotent = c.is_repeatable.result }) (Request (pos 1) c.args.call.now) refl c.is_repeatable.ensures wrote.0 wrote.1 wrote.2
