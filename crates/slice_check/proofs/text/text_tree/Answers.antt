use Rattle.slice_syntax.proofs.RegularItems.{regular}
use Rattle.slice_check.proofs.Texts.{by_lexer, by_parser}
use Rattle.slice_check.proofs.text.text_tree.Goals as goal

pub returns-in-Err-clause-answer : goal.returns-in-Err-clause-answer
returns-in-Err-clause-answer c = by_lexer c.args.file.now c.args.text.now c.in-Err.fault c.lexer_fault.result c.in-Err.ensures c.lexer_fault.ensures.fault c.lexer_fault.ensures.memory

pub returns-in-Err-Expected-clause-answer : goal.returns-in-Err-Expected-clause-answer
returns-in-Err-Expected-clause-answer c = by_parser c.args.file.now c.args.text.now c.in-Ok.tokens c.in-Err-Expected.field-0 c.in-Err-Expected.place c.in-Err-Expected.field-0-1 c.text_fault.result c.in-Ok.ensures.0 c.in-Ok.ensures.1 c.in-Err-Expected.field-0-is c.in-Err-Expected.ensures c.text_fault.ensures

pub returns-in-Ok-parse-clause-regular : goal.returns-in-Ok-parse-clause-regular
returns-in-Ok-parse-clause-regular c = regular c.args.text.now c.in-Ok.tokens c.in-Ok-parse.tree c.in-Ok.ensures.1 c.in-Ok-parse.ensures
