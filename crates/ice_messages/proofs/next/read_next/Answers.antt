use Rattle.std.proofs.Common.{◌∙◌, sym, ap, subst, arith, Bool, Ok}
use Rattle.std.proofs.lemmas.Result.{err_from_is_err_and}
use Rattle.ice_prims.specs.Rest.{whole}
use Rattle.ice_messages.specs.Messages.{header, message_at}
use Rattle.ice_messages.specs.Next.{IsCounted}
use Rattle.ice_messages.proofs.Nexts.{few_bad, next_is}
use Rattle.ice_messages.proofs.next.read_next.Goals as goal

pub returns-in_err-take_header : goal.returns-in_err-take_header
returns-in_err-take_header c =
    let p = err_from_is_err_and c.from_residual.result c.from_residual.ensures.1 in
    let read = sym (ap header.read (c.new.ensures ∙ ap whole c.completed.ensures)) ∙ c.in_err-take_header.ensures in
    rw (p.1, p.2) (few_bad c.args.bytes.now c.if-bytes-lt-HEADER_BYTES.true c.in_err-take_header.field-0.0 read)

pub returns : goal.returns
returns c = rw c.place.ensures (next_is c.args.bytes.now c.in_ok-message.message c.take_message.new.cursor (λ i. omega (arith, c.type_inv.bytes i)) (subst (λ (b : Bool). IsCounted (Ok b) c.args.bytes.now) c.if-not-branch.false c.in_ok-is_counted.ensures).0 (sym (ap message_at c.new-cursor.ensures) ∙ c.in_ok-message.ensures.message))
