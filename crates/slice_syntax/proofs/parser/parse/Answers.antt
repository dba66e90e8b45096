use Rattle.std.proofs.Common.{sym, ap, ◌∙◌}
use Rattle.slice_syntax.specs.Lexemes.{lexemes}
use Rattle.slice_syntax.specs.Moving.{whole_at}
use Rattle.slice_syntax.proofs.Breaking.{whole_file, refused_answer}
use Rattle.slice_syntax.proofs.Exits.{refused_by}
use Rattle.slice_syntax.proofs.parser.parse.Goals as goal

pub returns-in-Ok : goal.returns-in-Ok
returns-in-Ok c = whole_file (lexemes c.args.text.now c.args.tokens.now) c.file.new.cursor c.in-Ok.found (ap whole_at (sym c.new-cursor.ensures) ∙ c.in-Ok.ensures)

pub returns-in-Err-Refused : goal.returns-in-Err-Refused
returns-in-Err-Refused c = refused_answer c.args.text.now c.args.tokens.now c.file.new.cursor c.fault.result (ap whole_at (sym c.new-cursor.ensures) ∙ refused_by c.in-Err-Refused.field-0 c.file.new.cursor (whole_at c.new-cursor.result) c.in-Err-Refused.field-0-is c.in-Err-Refused.ensures) c.fault.ensures
