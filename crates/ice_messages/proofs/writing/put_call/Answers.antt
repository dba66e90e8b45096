use Rattle.std.proofs.Common.{List, subst}
use Rattle.ice_messages.specs.Context.{Entry, context}
use Rattle.ice_messages.specs.Written.{Puts}
use Rattle.ice_messages.proofs.Puts.{call_puts, mode_puts}
use Rattle.ice_messages.proofs.writing.put_call.Goals as goal

pub returns : goal.returns
returns c = call_puts c.put_body.result c.args.call.now c.args.out.now.items c.put_identity.new.out.items c.put_facet.new.out.items c.put_text.new.out.items c.put_byte.new.out.items c.put_context.new.out.items c.put_body.new.out.items
    c.in_ok-put_identity.ensures c.in_ok-put_facet.ensures c.in_ok-put_text.ensures
    (mode_puts c.args.call.now.mode c.put_text.new.out.items c.put_byte.new.out.items c.requires.writable.mode c.in_ok-put_byte.ensures.ok)
    (subst (λ (es : List Entry). Puts context es c.put_byte.new.out.items c.put_context.new.out.items) c.as_slice.ensures c.in_ok-put_context.ensures) c.put_body.ensures
