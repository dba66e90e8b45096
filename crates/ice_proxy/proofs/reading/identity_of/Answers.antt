use Rattle.std.proofs.Common.{sym, ◌∙◌, ap}
use Rattle.std.specs.Option.{option_copied}
use Rattle.ice_proxy.proofs.Found.{slash_there, identity_parted, identity_alone, identity_open}
use Rattle.ice_proxy.proofs.reading.identity_of.Goals as goal

pub returns-in-Some-behind_slash : goal.returns-in-Some-behind_slash
returns-in-Some-behind_slash c =
    let is = identity_parted c.args.word.now c.opened-is_quoted.result.1.now c.opened-is_quoted.result.0 c.opened-is_quoted.ensures.quoted c.opened-is_quoted.ensures.rest c.in-Some.rest.now c.new-first.result.items
    c.append_letters.new.out.items c.new-first.ensures.items (rw c.in-Some.is at c.in_ok-rest.ensures.appends) c.in-Some-behind_slash.others.now
    (slash_there c.in-Some.rest.now c.in-Some-behind_slash.others.now c.in-Some-behind_slash.ensures) in
    rw (is, ← c.deref.ensures.value) c.with_category.ensures

pub returns-then-not-is_closed : goal.returns-then-not-is_closed
returns-then-not-is_closed c =
    identity_open c.args.word.now c.opened-is_quoted.result.1.now c.opened-is_quoted.result.0 c.opened-is_quoted.ensures.quoted c.opened-is_quoted.ensures.rest c.in-Some.rest.now c.new-first.result.items
    c.append_letters.new.out.items c.new-first.ensures.items (rw c.in-Some.is at c.in_ok-rest.ensures.appends) (sym c.is_closed.ensures ∙ c.if-not-is_closed.true) (rw c.in-Some.is at c.in_ok-rest.ensures.stops)
    (sym (ap option_copied c.in_default-behind_slash.is) ∙ c.behind_slash.ensures)

pub returns : goal.returns
returns c =
    let is = identity_alone c.args.word.now c.opened-is_quoted.result.1.now c.opened-is_quoted.result.0 c.opened-is_quoted.ensures.quoted c.opened-is_quoted.ensures.rest c.in-Some.rest.now c.new-first.result.items
    c.append_letters.new.out.items c.new-first.ensures.items (rw c.in-Some.is at c.in_ok-rest.ensures.appends) (sym c.is_closed.ensures ∙ c.if-not-is_closed.false) in
    rw (is, ← c.deref-2.ensures.value) c.joined.ensures
