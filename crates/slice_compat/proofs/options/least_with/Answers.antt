use Rattle.std.proofs.Common.{◌≡◌, true, false, sym, ◌∙◌}
use Rattle.slice_compat.proofs.Failing.{tagless_reads, read_on, still_least, less_now}
use Rattle.slice_compat.proofs.Tagged.{by_kind}
use Rattle.slice_compat.proofs.options.least_with.Goals as goal

pub returns-in_default-clause-least : goal.returns-in_default-clause-least
returns-in_default-clause-least c = λ own members at are row h.
    read_on c.args.old.now c.args.new.now own members at c.args.member.now row c.args.least (tagless_reads c.args.old.now c.args.new.now c.args.member.now members c.in_default.is) h

pub returns-then-is_at_most-clause-least : goal.returns-then-is_at_most-clause-least
returns-then-is_at_most-clause-least c = λ own members at are row h.
    still_least c.args.old.now c.args.new.now own members at c.args.member.now row c.args.least c.in-Some.tag c.in-Some.is (c.is_at_most.ensures.0 c.if-is_at_most.true) h

pub returns-then-can_read-clause-least : goal.returns-then-can_read-clause-least
returns-then-can_read-clause-least c = λ own members at are row h.
    read_on c.args.old.now c.args.new.now own members at c.args.member.now row c.args.least
    ((by_kind c.args.old.now c.args.new.now c.args.member.now c.in-Some.tag c.in-Some.is c.args.kinds.now members are c.kind_at-other.result c.kind_at-other.ensures).0 (c.in_ok-can_read.ensures.yes.0 c.if-can_read.true)) h

pub returns-clause-least : goal.returns-clause-least
returns-clause-least c = λ own members at are row h.
    less_now c.args.old.now c.args.new.now own members at c.args.member.now row c.args.least c.in-Some.tag c.in-Some.is
    (λ reads. let both : true ≡ false = sym (c.in_ok-can_read.ensures.yes.1 ((by_kind c.args.old.now c.args.new.now c.args.member.now c.in-Some.tag c.in-Some.is c.args.kinds.now members are c.kind_at-other.result c.kind_at-other.ensures).1 reads)) ∙ c.if-can_read.false in cc)
    (λ most. let both : true ≡ false = sym (c.is_at_most.ensures.1 most) ∙ c.if-is_at_most.false in cc)
    h
