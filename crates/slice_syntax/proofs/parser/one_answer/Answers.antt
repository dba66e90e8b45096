use Rattle.slice_syntax.proofs.Breaking.{file_or_break, one_file, one_break, never_both}
use Rattle.slice_syntax.proofs.parser.one_answer.Goals as goal

pub returns-clause-either : goal.returns-clause-either
returns-clause-either c = file_or_break

pub returns-clause-one_file : goal.returns-clause-one_file
returns-clause-one_file c = one_file

pub returns-clause-one_break : goal.returns-clause-one_break
returns-clause-one_break c = λ ls behind rest a b. one_break ls a.0 behind b.0 rest a.1 b.1

pub returns-clause-never_both : goal.returns-clause-never_both
returns-clause-never_both c = λ ls a b. never_both ls a.0 b.0 b.1 a.1 b.2
