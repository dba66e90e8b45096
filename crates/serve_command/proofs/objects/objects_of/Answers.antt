use Rattle.std.proofs.Common.{◌∙◌}
use Rattle.serve_command.proofs.Spelling.{none_spells}
use Rattle.serve_command.proofs.objects.objects_of.Goals as goal

pub returns-in-None : goal.returns-in-None
returns-in-None c = none_spells c.args.words.now c.loop-word.word-index c.word-item.result c.loop-word-test.true c.word-item.is (λ object is cut. c.in-None.ensures object (c.as_str.ensures.value ∙ is) cut)
