use Rattle.std.proofs.Common.{ap, ◌∙◌, arith}
use Rattle.std.specs.Char.{digit_value}
use Rattle.ice_proxy.proofs.DigitRuns.{digits_short, digits_broken, digits_on, digit_small, digit_fits}
use Rattle.ice_proxy.proofs.escape.hexadecimal.Goals as goal

pub returns-in_err-get-clause-value : goal.returns-in_err-get-clause-value
returns-in_err-get-clause-value c =
    rw c.from_residual.ensures (digits_short c.args.count c.loop-place.value c.loop-place.place c.args.bytes.now _ c.loop-place-test.true c.loop-place.invariant.same c.in_err-get.ensures.lookup.3)

pub returns-then-digit-ge16-clause-value : goal.returns-then-digit-ge16-clause-value
returns-then-digit-ge16-clause-value c =
    let at = c.in_ok-get.ensures.lookup.3 in
    digits_broken c.args.count c.loop-place.value c.loop-place.place c.args.bytes.now _ c.loop-place-test.true c.loop-place.invariant.same at.0
    c.digit_value-digit.result (c.digit_value-digit.ensures ∙ ap digit_value (at.1 0)) c.if-digit-ge16.true

pub overflow_mul-value : goal.overflow_mul-value
overflow_mul-value c = let fits = digit_fits c.loop-place.value 0 c.loop-place.place c.loop-place.invariant.small (omega arith) (omega arith) in omega arith

pub overflow_add-value : goal.overflow_add-value
overflow_add-value c = let fits = digit_fits c.loop-place.value c.from.result c.loop-place.place c.loop-place.invariant.small (omega arith) (omega arith) in omega arith

pub loop-place-preserved : goal.loop-place-preserved
loop-place-preserved c =
    let at = c.in_ok-get.ensures.lookup.3 in
    record {
      within = omega arith;
      small = digit_small c.loop-place.value c.from.result c.loop-place.place c.loop-place.invariant.small (omega arith);
      same = digits_on c.args.count c.loop-place.value c.loop-place.place c.args.bytes.now _ c.loop-place-test.true c.loop-place.invariant.same at.0
          c.from.result (c.from.ensures ∙ c.digit_value-digit.ensures ∙ ap digit_value (at.1 0)) (omega arith);
    }
