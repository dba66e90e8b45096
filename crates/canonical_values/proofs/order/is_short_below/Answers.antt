use Rattle.std.proofs.Common.{sym, ap, ◌∙◌}
use Rattle.std.specs.Int.{w16}
use Rattle.ice_prims.specs.Number.{signed_at}
use Rattle.canonical_values.proofs.Compared.{shorts_rise}
use Rattle.canonical_values.proofs.order.is_short_below.Goals as goal

pub returns-in-Ok-Ok : goal.returns-in-Ok-Ok
returns-in-Ok-Ok c = λ less t levels.
    shorts_rise t c.args.first.now c.args.second.now levels c.in-Ok-Ok.a c.in-Ok-Ok.b _ _
    (sym (ap (signed_at w16) c.new.ensures) ∙ c.in-Ok-Ok.ensures) (sym (ap (signed_at w16) c.new-2.ensures) ∙ c.in-Ok-Ok.ensures') less
