use Rattle.std.proofs.Common.{true, sym, ap, ◌∙◌, [], ◌∷◌, ◌++◌, append_assoc}
use Rattle.slice_syntax.specs.Reading.{read}
use Rattle.slice_syntax.specs.Rules.{operation, operations}
use Rattle.slice_syntax.proofs.Exits.{err_takes}
use Rattle.slice_syntax.proofs.Fits.{fits_operations}
use Rattle.slice_syntax.proofs.Starts.{starts_operation, begun, not_begun}
use Rattle.slice_syntax.proofs.Nesting.{append_none}
use Rattle.slice_syntax.proofs.Series.{gather_more, gather_err, gather_end, rows_less}
use Rattle.slice_syntax.proofs.interfaces.operations.Goals as goal

pub loop-alloc-smaller : goal.loop-alloc-smaller
loop-alloc-smaller c =
    rows_less (λ x. true) operation fits_operations c.loop-alloc.cursor c.operation.new.cursor c.in_ok-operation.field-0 (begun operation _ c.loop-alloc.cursor starts_operation (sym c.begins.ensures ∙ c.loop-alloc-test.true)) c.in_ok-operation.ensures

pub loop-alloc-preserved : goal.loop-alloc-preserved
loop-alloc-preserved c =
    gather_more (λ x. true) operation fits_operations (λ ys. c.loop-alloc.ops ++ ys) (λ ys. c.push.new.self ++ ys) c.loop-alloc.cursor c.operation.new.cursor c.in_ok-operation.field-0
    (λ ys. ap (λ z. z ++ ys) c.in_ok-push.ensures.ok ∙ append_assoc c.loop-alloc.ops (c.in_ok-operation.field-0 ∷ []) ys)
    (begun operation _ c.loop-alloc.cursor starts_operation (sym c.begins.ensures ∙ c.loop-alloc-test.true)) c.in_ok-operation.ensures ∙ c.loop-alloc.invariant

pub returns-in_err-operation : goal.returns-in_err-operation
returns-in_err-operation c =
    err_takes (λ x. x) c.in_err-operation.field-0.0 c.from_residual.result c.operation.new.cursor (read operation c.loop-alloc.cursor) (read operations c.args.cursor.now) c.from_residual.ensures.1 c.in_err-operation.ensures
    (λ left e. sym c.loop-alloc.invariant ∙ gather_err (λ x. true) operation fits_operations (λ ys. c.loop-alloc.ops ++ ys) c.loop-alloc.cursor left
    (begun operation _ c.loop-alloc.cursor starts_operation (sym c.begins.ensures ∙ c.loop-alloc-test.true)) e)

pub returns : goal.returns
returns c =
    sym c.loop-alloc.invariant ∙ gather_end (λ x. true) operation fits_operations (λ ys. c.loop-alloc.ops ++ ys) c.loop-alloc.ops c.loop-alloc.cursor (append_none c.loop-alloc.ops)
    (not_begun operation _ c.loop-alloc.cursor starts_operation (sym c.begins.ensures ∙ c.loop-alloc-test.false))
