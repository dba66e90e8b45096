use Rattle.std.proofs.Common.{arith, pos, ◌≤ℤ◌, to_z, of_z, sym, ap, ◌∙◌}
use Rattle.std.proofs.lemmas.Int.{ints}
use Rattle.std.specs.Int.{w32}
use Rattle.ice_prims.specs.Number.{signed_at}
use Rattle.canonical_inputs.proofs.Fronts.{count_found}
use Rattle.canonical_inputs.proofs.front.count_front.Goals as goal

pub returns-in-Ok-clause-front : goal.returns-in-Ok-clause-front
returns-in-Ok-clause-front c =
    let least : pos 0 ≤ℤ to_z w32 (of_z w32 c.in-Ok.number) = omega (arith, ints) in
    count_found c.args.bytes.now c.in-Ok.number _ (λ i. omega (arith, c.type_inv.bytes i)) (sym (ap (signed_at w32) c.new.ensures) ∙ c.in-Ok.ensures) least
