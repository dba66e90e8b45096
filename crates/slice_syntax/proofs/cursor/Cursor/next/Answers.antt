use Rattle.std.proofs.Common.{sym}
use Rattle.slice_syntax.proofs.Cursors.{token_found, token_none}
use Rattle.slice_syntax.proofs.cursor.Cursor.next.Goals as goal

pub returns-in-Some : goal.returns-in-Some
returns-in-Some c =
    let found = sym (c.in-Some.ensures) in
    token_found c.self.inside.text.now c.self.inside.tokens.now c.self.inside.at c.in-Some.token.now c.text.result c.args.self.now (sym c.self.view_is) found (c.text.ensures c.in-Some.token.now found)

pub returns-in-None : goal.returns-in-None
returns-in-None c = token_none c.self.inside.text.now c.self.inside.tokens.now c.self.inside.at c.args.self.now (sym c.self.view_is) (sym (c.in-None.ensures))
