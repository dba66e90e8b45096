use Rattle.slice_lexer.proofs.Standing.{lexes_stand}
use Rattle.slice_lexer.proofs.laws.tokens_stand.Goals as goal

pub returns : goal.returns
returns c = lexes_stand
