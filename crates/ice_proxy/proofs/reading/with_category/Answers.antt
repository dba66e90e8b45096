use Rattle.std.proofs.Common.{sym, ◌∙◌}
use Rattle.ice_proxy.proofs.Found.{name_open, name_closed}
use Rattle.ice_proxy.proofs.reading.with_category.Goals as goal

pub returns-then-not-is_closed : goal.returns-then-not-is_closed
returns-then-not-is_closed c =
    name_open c.args.category.now c.args.bytes.now c.args.is_quoted c.in-Some.rest.now c.new-name.result.items c.append_letters.new.out.items c.new-name.ensures.items
    (rw c.in-Some.is at c.in_ok-rest.ensures.appends) (sym c.is_closed.ensures ∙ c.if-not-is_closed.true) (rw c.in-Some.is at c.in_ok-rest.ensures.stops)

pub returns : goal.returns
returns c =
    let is = name_closed c.args.category.now c.args.bytes.now c.args.is_quoted c.in-Some.rest.now c.new-name.result.items c.append_letters.new.out.items c.new-name.ensures.items
    (rw c.in-Some.is at c.in_ok-rest.ensures.appends) (sym c.is_closed.ensures ∙ c.if-not-is_closed.false) in
    rw (is, ← c.deref.ensures.value) c.joined.ensures
