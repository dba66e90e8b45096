use Rattle.graph_arena.specs.Seen.{view_slices}
use Rattle.ice_encoding.specs.TypedGraph.{RefersIn}
use Rattle.value_parts.specs.SlicedType.{rows_of}
use Rattle.value_checks.proofs.Sliced.{not_empty, some_slices}
use Rattle.value_checks.proofs.instances.is_instance.Goals as goal

pub returns-then-not-is_empty : goal.returns-then-not-is_empty
returns-then-not-is_empty c =
    let h = some_slices (rows_of c.args.sort c.args.schema.now) (RefersIn c.args.schema.now c.args.graph.now.instances) (view_slices c.args.slices.now) (not_empty c.args.slices.now c.if-not-is_empty.ensures) in
    (λ b. h.0 (c.are_slices.ensures.0 b), λ i. c.are_slices.ensures.1 (h.1 i))
