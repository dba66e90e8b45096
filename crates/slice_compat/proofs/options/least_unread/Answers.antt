use Rattle.std.proofs.Common.{refl, arith}
use Rattle.std.proofs.lemmas.Option.{slice_get_read}
use Rattle.slice_compat.proofs.Failing.{least_of_all}
use Rattle.slice_compat.proofs.options.least_unread.Goals as goal

pub loop-member-init : goal.loop-member-init
loop-member-init c = record { least = λ place m lt is. absurd (omega (arith, lt)); answers = c.requires.answers }

pub loop-member-preserved : goal.loop-member-preserved
loop-member-preserved c = record {
  least = c.in_ok-least.ensures.least c.args.own.now c.args.members.now c.loop-member.member-index (record { apart = c.requires.tags; found = c.in_ok-kinds.ensures })
      (slice_get_read c.args.own.now _ c.loop-member.member-index c.member-item.result refl c.loop-member-test.true c.member-item.is) c.loop-member.invariant.least;
  answers = c.in_ok-least.ensures.answers;
}

pub returns-clause-least : goal.returns-clause-least
returns-clause-least c = least_of_all c.args.old.now c.args.new.now c.args.own.now c.args.members.now c.loop-member.member-index c.loop-member-test.false c.loop-member.least c.loop-member.invariant.least
