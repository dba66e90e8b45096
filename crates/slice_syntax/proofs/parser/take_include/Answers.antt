use Rattle.slice_syntax.specs.Lexemes.{seen}
use Rattle.slice_syntax.proofs.Cursors.{include_text}
use Rattle.slice_syntax.proofs.parser.take_include.Goals as goal

pub unreachable-requires : goal.unreachable-requires
unreachable-requires c = include_text c.args.cursor.now c.take_any.new.self (seen (c.in_ok-token.token, c.in_ok-token.bytes)) c.in_ok-token.ensures c.in-None.ensures
