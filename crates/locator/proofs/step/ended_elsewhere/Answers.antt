use Rattle.std.proofs.Common.{◌∙◌}
use Rattle.locator.proofs.Stepping.{elsewhere_at}
use Rattle.locator.proofs.step.ended_elsewhere.Goals as goal

pub returns-in-Some : goal.returns-in-Some
returns-in-Some c = c.is_elsewhere.ensures ∙ elsewhere_at c.args.attempts.now c.in-Some.attempt.now c.in-Some.ensures.value
