use Rattle.canonical_values.proofs.Compared.{enums_rise}
use Rattle.canonical_values.proofs.order.is_enum_below.Goals as goal

pub returns-in-Some-Some : goal.returns-in-Some-Some
returns-in-Some-Some c = λ less t levels.
    enums_rise t c.args.first.now c.args.second.now levels c.args.place c.in-Some-Some.a c.in-Some-Some.b c.in-Some-Some.field-0-1-0 c.in-Some-Some.field-0-1-1 c.in-Some-Some.ensures c.in-Some-Some.ensures' less
