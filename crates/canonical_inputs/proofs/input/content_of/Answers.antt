use Rattle.std.proofs.Common.{arith, ◌≡◌, sym, ap, ◌∙◌, get_or}
use Rattle.std.specs.Int.{w32}
use Rattle.std.proofs.lemmas.List.{take_rest}
use Rattle.ice_prims.specs.Number.{signed_at}
use Rattle.ice_encoding.specs.Opening.{encapsulated_bytes}
use Rattle.canonical_inputs.proofs.Encapsulated.{encapsulated}
use Rattle.canonical_inputs.proofs.input.content_of.Goals as goal

pub returns-in-Ok-clause-encapsulated : goal.returns-in-Ok-clause-encapsulated
returns-in-Ok-clause-encapsulated c =
    let input = c.args.input.now in
    let four : get_or input 4 0 ≡ 1 = c.if-input-ne1.false in
    let five : get_or input 5 0 ≡ 1 = c.if-input-ne1-2.false in
    let size = c.if-size-input.true in
    encapsulated input c.in-Ok.size _ (λ i. omega (arith, c.type_inv.input i)) (omega arith) four five (sym (ap (signed_at w32) c.new.ensures) ∙ c.in-Ok.ensures) size ∙ ap encapsulated_bytes (sym (take_rest input 6))
