use Rattle.ice_types.specs.Kept.{beside_of, tables_of}
use Rattle.ice_types.proofs.Counted.{interface_counts}
use Rattle.ice_types.proofs.schema.Schema.operation.Goals as goal

pub operation_of-requires : goal.operation_of-requires
operation_of-requires c =
    let rows = c.self.inside.rows in
    interface_counts (tables_of rows) (beside_of rows) c.self.invariant.0.kept
