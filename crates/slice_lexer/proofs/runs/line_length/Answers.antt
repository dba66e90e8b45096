use Rattle.std.proofs.Common.{◌∙◌}
use Rattle.slice_lexer.proofs.Searches.{line_met}
use Rattle.slice_lexer.proofs.runs.line_length.Goals as goal

pub returns : goal.returns
returns c = c.unwrap_or.ensures ∙ line_met c.args.bytes.now c.memchr.result c.memchr.ensures
