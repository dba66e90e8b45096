use Rattle.std.proofs.Common.{refl}
use Rattle.ice_proxy.proofs.AppendedWords.{none_appended, step_broken, step_on}
use Rattle.ice_proxy.proofs.reading.append_letters.Goals as goal

pub loop-rest-init : goal.loop-rest-init
loop-rest-init c = none_appended c.args.mark c.args.bytes.now c.args.out.now.items

pub returns-in_default-2-clause-appends : goal.returns-in_default-2-clause-appends
returns-in_default-2-clause-appends c =
    step_broken c.args.mark c.args.bytes.now c.loop-rest.rest.now _ c.args.out.now.items c.loop-rest.out.items c.append_letter.new.out.items c.in-len1-up.len_at_least refl c.loop-rest.invariant
    (rw c.in_default-2.is at c.in_ok-count.ensures.appends)

pub loop-rest-preserved : goal.loop-rest-preserved
loop-rest-preserved c =
    step_on c.args.mark c.args.bytes.now c.loop-rest.rest.now _ c.args.out.now.items c.loop-rest.out.items c.append_letter.new.out.items c.in-len1-up.len_at_least refl c.loop-rest.invariant
    c.in-Some.count (rw c.in-Some.is at c.in_ok-count.ensures.appends)
