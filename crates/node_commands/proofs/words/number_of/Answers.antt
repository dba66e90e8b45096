use Rattle.std.proofs.Common.{◌≡◌, Ok, true, sym, ap, ◌∙◌, arith, inl, inr}
use Rattle.std.specs.Fmt.{decimal}
use Rattle.std.specs.Result.{result_ok, is_ok}
use Rattle.std.proofs.lemmas.Bool.{false≢true}
use Rattle.std.proofs.lemmas.Fmt.{parse-decimal}
use Rattle.std.proofs.lemmas.Option.{same_Some}
use Rattle.std.proofs.lemmas.Slice.Eq.{bytes_eq-Decides}
use Rattle.node_commands.proofs.words.number_of.Goals as goal

pub returns-in_err-number : goal.returns-in_err-number
returns-in_err-number c = rw c.from_residual.ensures (λ n is least most.
    let parsed : c.parse.result ≡ Ok n = parse-decimal 32 n c.args.word.now c.parse.result (omega (arith, most, c.ranges.most.fits)) (omega (arith, most, c.ranges.most.fits)) is c.parse.ensures.value.0 in
    absurd (false≢true (c.in_err-number.ensures.variant ∙ ap is_ok parsed)))

pub returns : goal.returns
returns c = λ n is least most.
    let parsed : c.parse.result ≡ Ok n = parse-decimal 32 n c.args.word.now c.parse.result (omega (arith, most, c.ranges.most.fits)) (omega (arith, most, c.ranges.most.fits)) is c.parse.ensures.value.0 in
    let same : c.in_ok-number.number ≡ n = same_Some c.in_ok-number.number n (c.in_ok-number.ensures.value ∙ ap result_ok parsed) in
    let text : c.format.result.now ≡ c.args.word.now = c.format.ensures.text ∙ ap decimal same ∙ sym is in
    let equal : c.eq.result ≡ true = c.eq.ensures ∙ (bytes_eq-Decides c.format.result.now c.args.word.now).1 text in
    elim c.else-eq.either [
      | inl (on, low, above) ↦ omega (arith, above, same, most)
      | inr (inl (on, below)) ↦ omega (arith, below, same, least)
      | inr (inr off) ↦ false≢true (sym off ∙ equal)
    ]
