use Rattle.std.proofs.Common.{arith, rules, ◌≡◌, ◌<◌, ◌^◌, ◌+◌, ◌-◌, ℕ, suc, Some, None, drop, ap, ◌∙◌, sym, subst}
use Rattle.std.specs.Prelude.{slice_get}
use Rattle.std.proofs.lemmas.List.{take_rest}
use Rattle.ice_prims.specs.Bytes.{size_bytes}
use Rattle.canonical_values.specs.Fronts.{IsFront}
use Rattle.canonical_values.specs.Frames.{Passes}
use Rattle.canonical_inputs.specs.Heads.{number_place}
use Rattle.canonical_inputs.proofs.Fronts.{front_passes}
use Rattle.canonical_inputs.proofs.Heads.{index_found, none_is}
use Rattle.canonical_inputs.proofs.head.index_id.Goals as goal

pub returns-in-Some : goal.returns-in-Some
returns-in-Some c =
    let t = c.args.schema.now in
    let input = c.args.input.now in
    let at = c.args.at in
    let index = c.in_ok-index.index in
    let class = c.in_ok-class.field-0.now in
    let row = c.in_ok-decl.decl.now in
    let is_row : slice_get t.classes class ≡ Some row = search rules in
    let plain : row.compact ≡ None = none_is row.compact cc in
    let one : suc (index - 1) ≡ index = omega arith in
    let place : c.in-Some.place ≡ index - 1 = search rules in
    let there : number_place c.args.ids.now class ≡ Some (index - 1) = sym c.place_of.ensures ∙ c.in-Some.is ∙ ap Some place in
    let found : IsFront (λ n. n < 2 ^ 31) size_bytes (drop at input) index c.in_ok-index.taken = rw (take_rest input at) at c.in_ok-index.ensures in
    let passes = front_passes t input at c.in_ok-index.taken (λ n. n < 2 ^ 31) size_bytes index c.requires found in
    index_found t c.rules.ensures class row is_row input at (at + c.in_ok-index.taken) (index - 1) c.args.ids.now plain there
    (subst (λ (n : ℕ). Passes t input at (at + c.in_ok-index.taken) (size_bytes n)) (sym one) passes)
