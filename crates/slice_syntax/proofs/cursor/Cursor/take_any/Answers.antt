use Rattle.std.proofs.Common.{sym, ◌∙◌}
use Rattle.slice_syntax.specs.Lexemes.{seen}
use Rattle.slice_syntax.proofs.Cursors.{taken}
use Rattle.slice_syntax.proofs.cursor.Cursor.take_any.Goals as goal

pub returns-in-Some : goal.returns-in-Some
returns-in-Some c = taken c.args.terminals.now c.args.self.now _ (seen c.in-Some.found) (c.in-Some.ensures) (sym c.begins.ensures ∙ c.if-begins.true) c.advance.ensures
