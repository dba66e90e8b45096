use Rattle.slice_compat.proofs.Meeting.{no_class, class_more}
use Rattle.slice_compat.proofs.reached.meet_classes.Goals as goal

pub loop-at-init : goal.loop-at-init
loop-at-init c = no_class c.args.marks.now

pub loop-at-preserved : goal.loop-at-preserved
loop-at-preserved c = class_more c.loop-at.at c.args.marks.now c.loop-at.marks c.meet.new.self c.loop-at.invariant c.in_ok-meet.ensures
