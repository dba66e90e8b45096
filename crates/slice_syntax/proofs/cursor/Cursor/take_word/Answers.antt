use Rattle.std.proofs.Common.{ap, ◌∙◌}
use Rattle.slice_syntax.specs.Lexemes.{seen, if_text}
use Rattle.slice_syntax.proofs.Cursors.{word_text}
use Rattle.slice_syntax.proofs.cursor.Cursor.take_word.Goals as goal

pub unreachable-requires : goal.unreachable-requires
unreachable-requires c = word_text c.args.self.now _ (seen (c.in_ok-token.token, c.in_ok-token.bytes)) (c.in_ok-token.ensures) (c.in-None.ensures ∙ ap if_text c.name_of.ensures)
