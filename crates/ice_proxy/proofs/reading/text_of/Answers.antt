use Rattle.std.proofs.Common.{sym, ◌∙◌}
use Rattle.ice_proxy.proofs.Found.{text_open, text_closed}
use Rattle.ice_proxy.proofs.reading.text_of.Goals as goal

pub returns-then-not-is_closed : goal.returns-then-not-is_closed
returns-then-not-is_closed c =
    text_open c.args.word.now c.opened-is_quoted.result.1.now c.opened-is_quoted.result.0 c.opened-is_quoted.ensures.quoted c.opened-is_quoted.ensures.rest c.in-Some.rest.now c.new-bytes.result.items c.append_letters.new.out.items
    c.new-bytes.ensures.items (rw c.in-Some.is at c.in_ok-rest.ensures.appends) (sym c.is_closed.ensures ∙ c.if-not-is_closed.true) (rw c.in-Some.is at c.in_ok-rest.ensures.stops)

pub returns : goal.returns
returns c =
    let is = text_closed c.args.word.now c.opened-is_quoted.result.1.now c.opened-is_quoted.result.0 c.opened-is_quoted.ensures.quoted c.opened-is_quoted.ensures.rest c.in-Some.rest.now c.new-bytes.result.items
    c.append_letters.new.out.items c.new-bytes.ensures.items (rw c.in-Some.is at c.in_ok-rest.ensures.appends) (sym c.is_closed.ensures ∙ c.if-not-is_closed.false) in
    rw (is, ← c.deref.ensures.value) c.utf8_name.ensures
