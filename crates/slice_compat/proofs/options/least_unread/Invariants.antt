use Rattle.slice_compat.specs.Answers.{AreAnswers}
use Rattle.slice_compat.specs.Tests.{IsLeastUnread}
use Rattle.slice_compat.proofs.options.least_unread.Given as goal

-- the least of those before
abbrev pub invariant-loop-member : goal.invariant-loop-member
invariant-loop-member l = record {
  least : IsLeastUnread l.old l.new l.member-index l.own l.fn.members l.least;
  answers : AreAnswers l.old l.new l.answers;
}
