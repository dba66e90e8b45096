use Rattle.std.proofs.Common.{rules, arith}
use Rattle.std.proofs.lemmas.List.{take_rest}
use Rattle.canonical_values.proofs.Joined.{dictionary_part}
use Rattle.canonical_values.proofs.part.dictionary.Goals as goal

pub returns : goal.returns
returns c =
    dictionary_part c.args.schema.now c.args.input.now c.args.levels c.args.at c.args.place c.in-Some-size_front.count c.in-Some-size_front.taken c.in-Some.decl.now (omega arith) (search rules)
    (rw (take_rest c.args.input.now c.args.at) at c.in-Some-size_front.ensures)
