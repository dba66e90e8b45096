use Rattle.std.proofs.Common.{ap, ◌∙◌}
use Rattle.slice_meaning.proofs.Files.{checked_means, checked_breaks}
use Rattle.slice_faults.specs.Answer.{answer_of}
use Rattle.slice_faults.proofs.files.answer.Goals as goal

pub returns-in-None : goal.returns-in-None
returns-in-None c = λ files h. checked_means files c.args.schema (h ∙ ap (answer_of c.args.schema) c.in-None.is)

pub returns-in-Some : goal.returns-in-Some
returns-in-Some c = λ files h. checked_breaks files c.in-Some.found.0 c.in-Some.found.1 (h ∙ ap (answer_of c.args.schema) c.in-Some.is)
