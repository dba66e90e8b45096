use Rattle.std.proofs.Common.{ap}
use Rattle.ice_encoding.specs.TypedGraph.{RefersIn}
use Rattle.graph_arena.specs.Seen.{view_content}
use Rattle.value_parts.specs.Shapes.{shape_seen, told_apart}
use Rattle.value_parts.specs.SlicedType.{rows_of}
use Rattle.value_checks.proofs.Rowed.{known_told, unknown_row}
use Rattle.value_checks.proofs.instances.is_known.Goals as goal

pub returns-then-has_row : goal.returns-then-has_row
returns-then-has_row c =
    known_told c.args.sort c.args.schema.now (RefersIn c.args.schema.now c.args.graph.now.instances) c.args.class (shape_seen c.own_fields-fields.result) (view_content c.args.members.now)
    c.are_members.result (c.has_row.ensures.0 c.if-has_row.true) (ap told_apart c.own_fields-fields.ensures) c.are_members.ensures

pub returns-else-has_row : goal.returns-else-has_row
returns-else-has_row c =
    unknown_row (rows_of c.args.sort c.args.schema.now) (RefersIn c.args.schema.now c.args.graph.now.instances) c.args.class (view_content c.args.members.now) c.has_row.result c.if-has_row.false c.has_row.ensures
