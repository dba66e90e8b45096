use Rattle.std.proofs.Common.{◌∷◌, ◌+◌, ◌∙◌, drop, ap}
use Rattle.ice_encoding.specs.TypedGraph.{RefersIn}
use Rattle.value_parts.specs.SlicedType.{rows_of}
use Rattle.value_checks.proofs.Membered.{from_here}
use Rattle.value_checks.proofs.Sliced.{known_next}
use Rattle.value_checks.proofs.instances.are_slices.Goals as goal

pub returns-in-Known : goal.returns-in-Known
returns-in-Known c =
    let first = from_here c.args.slices.now c.loop-at.at c.index-slices-at.result c.loop-at-test.true c.index-slices-at.is in
    known_next (rows_of c.args.sort c.args.schema.now) (RefersIn c.args.schema.now c.args.graph.now.instances) c.args.slices.now c.loop-at.at c.in-Known.class c.in-Known.members c.is_whole.result
    (first ∙ ap (λ s. s ∷ drop (c.loop-at.at + 1) c.args.slices.now) c.in-Known.is) c.loop-at.invariant c.is_whole.ensures
