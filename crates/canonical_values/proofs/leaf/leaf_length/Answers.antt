use Rattle.std.proofs.Common.{rules, take, arith}
use Rattle.std.proofs.lemmas.List.{length-take-le}
use Rattle.canonical_values.proofs.Fronts.{front_fits}
use Rattle.canonical_values.proofs.Leaves.{number_stands}
use Rattle.canonical_values.proofs.leaf.leaf_length.Goals as goal

pub returns-else-bytes-length-clause-stands : goal.returns-else-bytes-length-clause-stands
returns-else-bytes-length-clause-stands c =
    number_stands c.args.schema.now c.args.kind c.in-Some.length (search rules) (take c.in-Some.length c.args.bytes.now)
    (front_fits c.in-Some.length c.args.bytes.now (λ i. omega (arith, c.type_inv.bytes i))) (length-take-le c.in-Some.length c.args.bytes.now (omega arith))
