use Rattle.std.proofs.Common.{sym, ◌∙◌, arith}
use Rattle.serve_command.proofs.Forms.{first_word, equal_words}
use Rattle.serve_command.proofs.operands.behind_word.Goals as goal

pub returns : goal.returns
returns c = first_word c.args.words.now c.first-item.result c.args.word.now (omega (arith, c.in-len1-up.len_at_least)) c.first-item.is
    (sym c.as_str.ensures.value ∙ equal_words c.as_str.result.now c.args.word.now c.ne.result c.ne.ensures c.if-ne.false)
