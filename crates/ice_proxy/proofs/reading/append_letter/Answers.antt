use Rattle.ice_proxy.proofs.AppendedWords.{byte_appended, escape_appended}
use Rattle.ice_proxy.proofs.reading.append_letter.Goals as goal

pub returns-then-first-ne92-clause-appends : goal.returns-then-first-ne92-clause-appends
returns-then-first-ne92-clause-appends c =
    byte_appended c.args.mark c.args.first c.args.others.now c.args.out.now.items c.push.new.self.items c.requires c.if-first-ne92.true c.in_ok-push.ensures.items

pub returns-in_ok-push_meaning-in-Some-clause-appends : goal.returns-in_ok-push_meaning-in-Some-clause-appends
returns-in_ok-push_meaning-in-Some-clause-appends c =
    rw c.if-first-ne92.false (escape_appended c.args.mark c.in-Some.length c.args.others.now c.args.out.now.items c.push_meaning.new.out.items _ c.in-Some.ensures.value c.in_ok-push_meaning-in-Some.ensures)
