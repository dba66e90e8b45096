use Rattle.slice_lexer.proofs.Steps.{break_placed}
use Rattle.slice_lexer.proofs.laws.defects_placed.Goals as goal

pub returns : goal.returns
returns c = break_placed
