use Rattle.std.proofs.Common.{rules, sym, ap, ◌∙◌}
use Rattle.ice_prims.specs.Number.{text_at}
use Rattle.canonical_values.proofs.Compared.{texts_rise}
use Rattle.canonical_values.proofs.order.is_text_below.Goals as goal

pub returns-in-Less : goal.returns-in-Less
returns-in-Less c = λ less t levels.
    texts_rise t c.args.first.now c.args.second.now levels c.in-Ok-Ok.a.now c.in-Ok-Ok.b.now _ _
    (sym (ap text_at c.new.ensures) ∙ c.in-Ok-Ok.ensures) (sym (ap text_at c.new-2.ensures) ∙ c.in-Ok-Ok.ensures') (search rules)
