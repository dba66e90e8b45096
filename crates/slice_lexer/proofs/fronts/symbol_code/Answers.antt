use Rattle.std.proofs.Common.{sym}
use Rattle.slice_lexer.proofs.Keywords.{no_symbol}
use Rattle.slice_lexer.proofs.fronts.symbol_code.Goals as goal

pub returns-in-Err : goal.returns-in-Err
returns-in-Err c = sym (no_symbol c.args.bytes.now c.in-Err.ensures.cases.0)
