use Rattle.std.proofs.Common.{ℕ, ◌<◌}
use Rattle.slice_compat.specs.Answers.{AreAnswers}
use Rattle.slice_compat.specs.Tests.{ReadsAt}
use Rattle.slice_compat.proofs.classes.first_unread.Given as goal

-- each before can be read
abbrev pub invariant-loop-at : goal.invariant-loop-at
invariant-loop-at l = record {
  earlier : (place : ℕ) → place < l.at → ReadsAt l.old l.new l.own l.others place;
  answers : AreAnswers l.old l.new l.answers;
}
