use Rattle.std.proofs.Common.{ℕ, ◌<◌}
use Rattle.slice_compat.specs.Answers.{AreAnswers}
use Rattle.slice_compat.specs.Reached.{IsReached}
use Rattle.slice_compat.specs.Tests.{ClassPasses}
use Rattle.slice_compat.proofs.compatibility.first_failing.Given as goal

-- each class before that is reached passes
abbrev pub invariant-loop-at : goal.invariant-loop-at
invariant-loop-at l = record {
  earlier : (class : ℕ) → class < l.at → IsReached l.old l.fn.old_kind class → ClassPasses l.old l.new class;
  answers : AreAnswers l.old l.new l.answers;
}
