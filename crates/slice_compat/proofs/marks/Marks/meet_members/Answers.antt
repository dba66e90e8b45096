use Rattle.std.proofs.Common.{refl}
use Rattle.std.proofs.lemmas.Option.{slice_get_read}
use Rattle.slice_compat.proofs.Meeting.{no_member, member_more, all_members}
use Rattle.slice_compat.proofs.marks.Marks.meet_members.Goals as goal

pub loop-member-init : goal.loop-member-init
loop-member-init c = no_member c.args.members.now c.args.self.now

pub loop-member-preserved : goal.loop-member-preserved
loop-member-preserved c = member_more c.args.members.now c.loop-member.member-index c.member-item.result
    (slice_get_read c.args.members.now _ c.loop-member.member-index c.member-item.result refl c.loop-member-test.true c.member-item.is)
    c.args.self.now c.loop-member.self c.meet_kind.new.self c.loop-member.invariant c.in_ok-meet_kind.ensures

pub returns : goal.returns
returns c = all_members c.args.members.now c.loop-member.member-index c.loop-member-test.false c.args.self.now c.loop-member.self c.loop-member.invariant
