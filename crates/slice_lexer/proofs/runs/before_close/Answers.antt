use Rattle.std.proofs.Common.{◌∙◌}
use Rattle.slice_lexer.proofs.Searches.{close_met}
use Rattle.slice_lexer.proofs.runs.before_close.Goals as goal

pub returns : goal.returns
returns c = c.unwrap_or.ensures ∙ close_met c.args.bytes.now c.find.result c.find.ensures
