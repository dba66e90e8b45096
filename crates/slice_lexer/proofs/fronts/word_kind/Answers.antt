use Rattle.std.proofs.Common.{sym}
use Rattle.slice_lexer.proofs.Keywords.{no_keyword}
use Rattle.slice_lexer.proofs.fronts.word_kind.Goals as goal

pub returns-in_default : goal.returns-in_default
returns-in_default c = sym (no_keyword c.args.word.now c.in_default.ensures.cases.0)
