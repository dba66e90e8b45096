use Rattle.slice_lexer.proofs.Standing.{lexes_spans}
use Rattle.slice_lexer.proofs.laws.spans_rise.Goals as goal

pub returns : goal.returns
returns c = lexes_spans
