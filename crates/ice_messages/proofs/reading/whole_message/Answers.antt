use Rattle.std.proofs.Common.{◌∙◌, sym, ap}
use Rattle.std.proofs.lemmas.Result.{err_from_is_err_and}
use Rattle.ice_prims.specs.Rest.{whole}
use Rattle.ice_encoding.proofs.Times.{filled_done, filled_over}
use Rattle.ice_messages.specs.Messages.{message_at}
use Rattle.ice_messages.proofs.reading.whole_message.Goals as goal

pub returns-in_err-end-clause-message : goal.returns-in_err-end-clause-message
returns-in_err-end-clause-message c =
    let p = err_from_is_err_and c.from_residual-in_err-end.result c.from_residual-in_err-end.ensures.1 in
    let left = c.in_err-end.ensures in
    let read = sym (ap message_at c.new-cursor.ensures) ∙ c.in_ok-message.ensures.message in
    rw (p.1, p.2, left.3) (filled_over message_at (whole c.args.bytes.now) c.take_message.new.cursor c.in_ok-message.message read left.0 left.1 left.2)

pub returns-clause-message : goal.returns-clause-message
returns-clause-message c =
    let read = sym (ap message_at c.new-cursor.ensures) ∙ c.in_ok-message.ensures.message in
    filled_done message_at (whole c.args.bytes.now) c.take_message.new.cursor c.in_ok-message.message read c.in_ok-end.ensures
