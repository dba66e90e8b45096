use Rattle.std.proofs.Common.{arith, rules, ◌≡◌, ◌<◌, ◌^◌, ◌-◌, ◌+◌, ℕ, suc, drop, subst}
use Rattle.std.proofs.lemmas.List.{take_rest}
use Rattle.ice_prims.specs.Bytes.{size_bytes}
use Rattle.canonical_values.specs.Fronts.{IsFront}
use Rattle.canonical_values.specs.Frames.{Passes}
use Rattle.canonical_inputs.proofs.Fronts.{front_passes}
use Rattle.canonical_inputs.proofs.entry.pass_entry.Goals as goal

pub begin-requires : goal.begin-requires
begin-requires c =
    let input = c.args.input.now in
    let at = c.args.at in
    let found : IsFront (λ n. n < 2 ^ 31) size_bytes (drop at input) c.in-Some.size c.in-Some.taken = rw (take_rest input at) at c.in-Some.ensures in
    let one : c.in-Some.size ≡ 1 = search rules in
    subst (λ (n : ℕ). Passes c.args.schema.now input at (at + c.in-Some.taken) (size_bytes n)) one (front_passes c.args.schema.now input at c.in-Some.taken (λ n. n < 2 ^ 31) size_bytes c.in-Some.size c.requires found)

pub go_back-requires : goal.go_back-requires
go_back-requires c =
    let input = c.args.input.now in
    let at = c.args.at in
    let found : IsFront (λ n. n < 2 ^ 31) size_bytes (drop at input) c.in-Some.size c.in-Some.taken = rw (take_rest input at) at c.in-Some.ensures in
    let more : c.in-Some.size ≡ suc (suc (c.in-Some.size - 2)) = omega arith in
    subst (λ (n : ℕ). Passes c.args.schema.now input at (at + c.in-Some.taken) (size_bytes n)) more (front_passes c.args.schema.now input at c.in-Some.taken (λ n. n < 2 ^ 31) size_bytes c.in-Some.size c.requires found)
