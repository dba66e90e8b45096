use Rattle.std.proofs.Common.{arith, List, ℕ, take, drop, refl, subst}
use Rattle.std.specs.Str.{IsUtf8}
use Rattle.std.proofs.lemmas.List.{length-drop, take_rest}
use Rattle.canonical_values.proofs.Fronts.{text_front}
use Rattle.canonical_values.proofs.front.text_length.Goals as goal

pub returns-in-Ok : goal.returns-in-Ok
returns-in-Ok c =
    let bytes = c.args.bytes.now in
    let taken = c.in_ok-size.taken in
    let n = c.in_ok-size.size in
    let utf8 : IsUtf8 (take n (drop taken bytes)) = subst (λ (l : List ℕ). IsUtf8 (take n l)) (take_rest bytes taken) c.in-Ok.ensures.cases.1 in
    (take n (drop taken bytes), text_front bytes (take n (drop taken bytes)) n taken c.in_ok-size.ensures (omega (arith, length-drop taken bytes)) refl utf8)
