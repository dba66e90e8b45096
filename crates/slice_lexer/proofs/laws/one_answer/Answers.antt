use Rattle.slice_lexer.proofs.Standing.{one_lexing, one_break, lexes_whole}
use Rattle.slice_lexer.proofs.Total.{answered}
use Rattle.slice_lexer.proofs.laws.one_answer.Goals as goal

pub returns-clause-some : goal.returns-clause-some
returns-clause-some c = answered

pub returns-clause-tokens : goal.returns-clause-tokens
returns-clause-tokens c = one_lexing

pub returns-clause-defect : goal.returns-clause-defect
returns-clause-defect c = one_break

pub returns-clause-never_both : goal.returns-clause-never_both
returns-clause-never_both c = λ text h k. lexes_whole text h.0 k.0 h.1 k.1
