use Rattle.std.proofs.Common.{◌≡◌, true, false, sym, ◌∙◌, arith}
use Rattle.slice_compat.proofs.Failing.{read_more}
use Rattle.slice_compat.proofs.classes.first_unread.Goals as goal

pub loop-at-init : goal.loop-at-init
loop-at-init c = record { earlier = λ place lt. absurd (omega (arith, lt)); answers = c.requires }

pub loop-at-preserved : goal.loop-at-preserved
loop-at-preserved c = record {
  earlier = read_more c.args.old.now c.args.new.now c.args.own.now c.args.others.now c.loop-at.at c.loop-at.invariant.earlier (c.in_ok-can_read.ensures.yes.0 c.if-not-can_read.false);
  answers = c.in_ok-can_read.ensures.answers;
}

pub returns-then-not-can_read-clause-place : goal.returns-then-not-can_read-clause-place
returns-then-not-can_read-clause-place c = record {
  within = omega arith;
  unread = λ h. let both : true ≡ false = sym (c.in_ok-can_read.ensures.yes.1 h) ∙ c.if-not-can_read.true in cc;
  earlier = c.loop-at.invariant.earlier;
}

pub returns-clause-place : goal.returns-clause-place
returns-clause-place c = λ place lt. c.loop-at.invariant.earlier place (omega (arith, lt))
