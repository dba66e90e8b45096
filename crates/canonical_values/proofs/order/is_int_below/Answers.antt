use Rattle.std.proofs.Common.{sym, ap, ◌∙◌}
use Rattle.std.specs.Int.{w32}
use Rattle.ice_prims.specs.Number.{signed_at}
use Rattle.canonical_values.proofs.Compared.{ints_rise}
use Rattle.canonical_values.proofs.order.is_int_below.Goals as goal

pub returns-in-Ok-Ok : goal.returns-in-Ok-Ok
returns-in-Ok-Ok c = λ less t levels.
    ints_rise t c.args.first.now c.args.second.now levels c.in-Ok-Ok.a c.in-Ok-Ok.b _ _
    (sym (ap (signed_at w32) c.new.ensures) ∙ c.in-Ok-Ok.ensures) (sym (ap (signed_at w32) c.new-2.ensures) ∙ c.in-Ok-Ok.ensures') less
