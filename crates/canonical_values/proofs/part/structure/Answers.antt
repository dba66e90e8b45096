use Rattle.std.proofs.Common.{rules}
use Rattle.canonical_values.proofs.Joined.{struct_part}
use Rattle.canonical_values.proofs.part.structure.Goals as goal

pub returns-in-Some : goal.returns-in-Some
returns-in-Some c = λ input le. struct_part c.args.schema.now input c.args.levels c.args.at c.args.place c.in-Some.field-0.now le (search rules)
