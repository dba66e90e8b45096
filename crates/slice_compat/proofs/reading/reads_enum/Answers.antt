use Rattle.std.proofs.Common.{sym, ◌∙◌}
use Rattle.slice_compat.proofs.reading.reads_enum.Goals as goal

pub returns-in-Some-clause-yes : goal.returns-in-Some-clause-yes
returns-in-Some-clause-yes c = c.requires.enums c.args.a c.args.b c.in-Some.yes (sym c.of_enums.ensures ∙ c.in-Some.is)

pub returns-clause-answers : goal.returns-clause-answers
returns-clause-answers c = c.in_ok-put_enums.ensures c.args.old.now c.args.new.now c.requires c.in_ok-yes.ensures
