use Rattle.std.proofs.Common.{◌≡◌, true, Some, None, Ok, sym, ap, ◌∙◌, arith, inl, inr}
use Rattle.std.specs.Fmt.{decimal}
use Rattle.std.specs.Result.{result_ok, is_ok}
use Rattle.std.proofs.lemmas.Bool.{false≢true}
use Rattle.std.proofs.lemmas.Fmt.{parse-decimal}
use Rattle.std.proofs.lemmas.Option.{same_Some}
use Rattle.std.proofs.lemmas.Slice.Eq.{bytes_eq-Decides}
use Rattle.std.proofs.lemmas.Str.Pattern.{strip_prefix_char}
use Rattle.ice_types.proofs.SliceIds.{no_number, other_digits, its_digits}
use Rattle.ice_types.proofs.slice_ids.number_in.Goals as goal

pub returns-in_err-digits : goal.returns-in_err-digits
returns-in_err-digits c = c.from_residual.ensures ∙ sym (no_number c.args.id.now (strip_prefix_char 35 c.args.id.now None c.in_err-digits.ensures.cases (omega arith)))

pub returns-in_err-number : goal.returns-in_err-number
returns-in_err-number c =
    c.from_residual-in_err-number.ensures ∙ sym (other_digits c.args.id.now c.in_ok-digits.digits.now (strip_prefix_char 35 c.args.id.now (Some c.in_ok-digits.digits) c.in_ok-digits.ensures.cases (omega arith)) (λ n most is.
    let parsed : c.parse.result ≡ Ok n = parse-decimal 32 n c.in_ok-digits.digits.now c.parse.result (omega (arith, most)) (omega (arith, most)) is c.parse.ensures.value.0 in
    false≢true (c.in_err-number.ensures.variant ∙ ap is_ok parsed)))

pub returns-then-number-le-MOST_NUMBER : goal.returns-then-number-le-MOST_NUMBER
returns-then-number-le-MOST_NUMBER c =
    let text : c.format.result.now ≡ c.in_ok-digits.digits.now = (bytes_eq-Decides c.format.result.now c.in_ok-digits.digits.now).0 (sym c.eq.ensures ∙ c.if-eq.true) in
    sym (its_digits c.args.id.now c.in_ok-digits.digits.now c.in_ok-number.number (strip_prefix_char 35 c.args.id.now (Some c.in_ok-digits.digits) c.in_ok-digits.ensures.cases (omega arith)) c.if-number-le-MOST_NUMBER.true
    (sym text ∙ c.format.ensures.text))

pub returns : goal.returns
returns c = sym (other_digits c.args.id.now c.in_ok-digits.digits.now (strip_prefix_char 35 c.args.id.now (Some c.in_ok-digits.digits) c.in_ok-digits.ensures.cases (omega arith)) (λ n most is.
    let parsed : c.parse.result ≡ Ok n = parse-decimal 32 n c.in_ok-digits.digits.now c.parse.result (omega (arith, most)) (omega (arith, most)) is c.parse.ensures.value.0 in
    let same : c.in_ok-number.number ≡ n = same_Some c.in_ok-number.number n (c.in_ok-number.ensures.value ∙ ap result_ok parsed) in
    let text : c.format.result.now ≡ c.in_ok-digits.digits.now = c.format.ensures.text ∙ ap decimal same ∙ sym is in
    let equal : c.eq.result ≡ true = c.eq.ensures ∙ (bytes_eq-Decides c.format.result.now c.in_ok-digits.digits.now).1 text in
    elim c.else-eq.either [
      | inl (on, above) ↦ omega (arith, above, same, most)
      | inr off ↦ false≢true (sym off ∙ equal)
    ]))
