use Rattle.std.proofs.Common.{◌<◌, ◌^◌, ◌+◌, drop}
use Rattle.std.proofs.lemmas.List.{take_rest}
use Rattle.ice_prims.specs.Bytes.{size_bytes}
use Rattle.canonical_values.specs.Fronts.{IsFront}
use Rattle.canonical_inputs.proofs.Fronts.{front_passes}
use Rattle.canonical_inputs.proofs.Heads.{compact_found}
use Rattle.canonical_inputs.proofs.head.number_id.Goals as goal

pub returns : goal.returns
returns c =
    let t = c.args.schema.now in
    let input = c.args.input.now in
    let at = c.args.at in
    let number = c.in_ok-number.number in
    let found : IsFront (λ n. n < 2 ^ 31) size_bytes (drop at input) number c.in_ok-number.taken = rw (take_rest input at) at c.in_ok-number.ensures in
    compact_found t c.rules.ensures input at (at + c.in_ok-number.taken) number c.in_ok-class.class c.in_ok-class.ensures (front_passes t input at c.in_ok-number.taken (λ n. n < 2 ^ 31) size_bytes number c.requires found)
