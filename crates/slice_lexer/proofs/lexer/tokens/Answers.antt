use Rattle.std.proofs.Common.{arith}
use Rattle.slice_lexer.proofs.Steps.{gap_step, token_step, break_step, memory_step}
use Rattle.slice_lexer.proofs.lexer.tokens.Goals as goal

pub returns-in_err-piece : goal.returns-in_err-piece
returns-in_err-piece c =
    break_step c.args.text.now c.loop-at.items.items c.loop-at.at c.in_err-piece.field-0.0 c.from_residual.result c.loop-at.invariant.0 c.loop-at-test.true (omega arith) c.in_err-piece.ensures c.from_residual.ensures.1

pub loop-at-preserved-in_ok-push : goal.loop-at-preserved-in_ok-push
loop-at-preserved-in_ok-push c =
    token_step c.args.text.now c.loop-at.items.items c.push.new.self.items c.loop-at.at c.length.result c.in-Token.field-1 c.in-Token.kind c.in_ok-piece.piece
    c.loop-at.invariant.0 c.in_ok-piece.ensures c.in-Token.is c.length.ensures c.in_ok-push.ensures.items

pub loop-at-preserved : goal.loop-at-preserved
loop-at-preserved c =
    gap_step c.args.text.now c.loop-at.items.items c.loop-at.at c.length.result c.in_default.field-0 c.in_ok-piece.piece c.loop-at.invariant.0 c.in_ok-piece.ensures c.in_default.is c.length.ensures

pub returns-in_err-push : goal.returns-in_err-push
returns-in_err-push c =
    memory_step c.args.text.now c.loop-at.items.items c.loop-at.at c.in-Token.field-1 c.in-Token.kind c.in_ok-piece.piece c.from_residual-in_err-push.result c.loop-at.invariant.0 c.in_ok-piece.ensures c.in-Token.is (omega arith) c.from_residual-in_err-push.ensures.1
