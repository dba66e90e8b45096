use Rattle.value_checks.proofs.Walked.{enumerator_told}
use Rattle.value_checks.proofs.values.is_enumerator.Goals as goal

pub returns-then-is_size : goal.returns-then-is_size
returns-then-is_size c =
    enumerator_told c.args.schema.now c.args.kind c.in-Enum.at c.enums.result.now c.in-Some.decl.now c.as_slice.result.now c.args.number c.has_number.result
    c.in-Enum.is c.enums.ensures c.in-Some.ensures c.as_slice.ensures (c.is_size.ensures.0 c.if-is_size.true) c.has_number.ensures.told
