use Rattle.std.proofs.Common.{sym, arith}
use Rattle.std.proofs.lemmas.List.{length-map}
use Rattle.slice_syntax.specs.Lexemes.{lexeme}
use Rattle.slice_syntax.proofs.Cursors.{one_on, none_on}
use Rattle.slice_syntax.proofs.cursor.Cursor.advance.Goals as goal

pub returns-then-self-len : goal.returns-then-self-len
returns-then-self-len c = one_on _ c.args.self.now c.self.inside.at (sym c.self.view_is)

pub returns-else-self-len : goal.returns-else-self-len
returns-else-self-len c = none_on _ c.args.self.now c.self.inside.at (sym c.self.view_is) (omega (arith, length-map c.self.inside.tokens.now (lexeme c.self.inside.text.now)))
