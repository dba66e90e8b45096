use Rattle.std.proofs.Common.{rules, arith, ◌+◌}
use Rattle.std.proofs.lemmas.List.{length-drop, take_rest}
use Rattle.canonical_values.proofs.Joined.{sequence_part, rows_part}
use Rattle.canonical_values.proofs.part.sequence.Goals as goal

pub returns-else-input-next : goal.returns-else-input-next
returns-else-input-next c =
    rows_part c.args.schema.now c.args.input.now c.args.levels c.args.at c.args.place c.in-Some-size_front.count c.in-Some-size_front.taken c.in-Some-row_length.row c.in-Some.decl.now (omega arith)
    (λ i. omega (arith, c.type_inv.input i)) (omega arith) (search rules) (rw (take_rest c.args.input.now c.args.at) at c.in-Some-size_front.ensures) c.in-Some-row_length.ensures.plain
    (omega (arith, length-drop (c.args.at + c.in-Some-size_front.taken) c.args.input.now))

pub returns-in_default-row_length : goal.returns-in_default-row_length
returns-in_default-row_length c =
    sequence_part c.args.schema.now c.args.input.now c.args.levels c.args.at c.args.place c.in-Some-size_front.count c.in-Some-size_front.taken c.in-Some.decl.now (omega arith) (search rules)
    (rw (take_rest c.args.input.now c.args.at) at c.in-Some-size_front.ensures)
