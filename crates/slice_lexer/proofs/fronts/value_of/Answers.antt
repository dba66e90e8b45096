use Rattle.std.proofs.Common.{◌≡◌, ◌*◌, get_or, ap, ◌∙◌, arith}
use Rattle.std.specs.Char.{digit_value}
use Rattle.slice_lexer.proofs.Values.{value_more, too_much}
use Rattle.slice_lexer.proofs.fronts.value_of.Goals as goal

pub returns-in_err-checked_mul : goal.returns-in_err-checked_mul
returns-in_err-checked_mul c =
    let product : c.loop-digit.value * c.from.result ≡ c.loop-digit.value * c.args.base = ap (λ n. c.loop-digit.value * n) c.from.ensures in
    let over = c.in_err-checked_mul.ensures in
    rw c.from_residual.ensures (too_much c.args.base c.loop-digit.value c.args.digits.now c.loop-digit.digit-index c.requires c.loop-digit-test.true c.loop-digit.invariant (omega (arith, over)))

pub returns-in_err-value : goal.returns-in_err-value
returns-in_err-value c =
    let product : c.in_ok-checked_mul.field-0 ≡ c.loop-digit.value * c.args.base = c.in_ok-checked_mul.ensures.1 ∙ ap (λ n. c.loop-digit.value * n) c.from.ensures in
    let digit : c.from-in-loop-digit.result ≡ digit_value (get_or c.args.digits.now c.loop-digit.digit-index 0) = c.from-in-loop-digit.ensures ∙ c.digit_value.ensures in
    let over = c.in_err-value.ensures in
    rw c.from_residual-in_err-value.ensures (too_much c.args.base c.loop-digit.value c.args.digits.now c.loop-digit.digit-index c.requires c.loop-digit-test.true c.loop-digit.invariant (omega (arith, over)))

pub loop-digit-preserved : goal.loop-digit-preserved
loop-digit-preserved c =
    let product : c.in_ok-checked_mul.field-0 ≡ c.loop-digit.value * c.args.base = c.in_ok-checked_mul.ensures.1 ∙ ap (λ n. c.loop-digit.value * n) c.from.ensures in
    let digit : c.from-in-loop-digit.result ≡ digit_value (get_or c.args.digits.now c.loop-digit.digit-index 0) = c.from-in-loop-digit.ensures ∙ c.digit_value.ensures in
    let total = c.in_ok-value.ensures.1 in
    let more = value_more c.args.base c.loop-digit.value c.args.digits.now c.loop-digit.digit-index c.loop-digit-test.true c.loop-digit.invariant in
    cc
