use Rattle.std.proofs.Common.{rules, ◌≡◌, Some, ap, ◌∙◌, to_z, of_z}
use Rattle.std.specs.Int.{w32}
use Rattle.ice_proxy.specs.Numbers as spec
use Rattle.ice_proxy.proofs.Digits.{reads_negative}
use Rattle.ice_proxy.proofs.numbers.number.Goals as goal

pub returns-in_ok-natural_within-in-45 : goal.returns-in_ok-natural_within-in-45
returns-in_ok-natural_within-in-45 c =
    let same : to_z w32 (of_z w32 c.negated.result) ≡ c.negated.result = search rules in
    let read : Some (spec.negative c.in_ok-natural_within-in-45.field-0) ≡ spec.number c.args.bits c.args.word.now = reads_negative c.args.bits c.pow-half.result c.args.word.now c.in_ok-natural_within-in-45.field-0 (search rules) (search rules) (search rules) c.in_ok-natural_within-in-45.ensures in
    ap Some (same ∙ c.negated.ensures) ∙ read
