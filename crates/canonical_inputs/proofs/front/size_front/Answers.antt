use Rattle.std.proofs.Common.{arith, ◌<◌, ◌^◌, ◌-◌, ℕ, length, sym, ap, ◌∙◌, subst}
use Rattle.ice_prims.specs.Bytes.{size_bytes}
use Rattle.ice_prims.specs.Number.{SpellsSize, size_at}
use Rattle.ice_prims.proofs.Spelled.{size_exact}
use Rattle.canonical_values.specs.Fronts.{IsFront}
use Rattle.canonical_values.proofs.Fronts.{front_found}
use Rattle.canonical_inputs.proofs.front.size_front.Goals as goal

pub returns-in-Ok : goal.returns-in-Ok
returns-in-Ok c =
    let bytes = c.args.bytes.now in
    subst (λ (m : ℕ). IsFront (λ n. n < 2 ^ 31) size_bytes bytes c.in-Ok.size (length bytes - m)) (sym c.left.ensures)
    (front_found size_at SpellsSize (λ n. n < 2 ^ 31) size_bytes size_exact bytes c.in-Ok.size c.take_size.new.self (λ i. omega (arith, c.type_inv.bytes i)) (sym (ap size_at c.new-cursor.ensures) ∙ c.in-Ok.ensures))
