use Rattle.ice_types.specs.Kept.{beside_of, tables_of}
use Rattle.ice_types.proofs.Counted.{class_counts}
use Rattle.ice_types.proofs.schema.Schema.far_base.Goals as goal

pub far_over-requires-clause-counts : goal.far_over-requires-clause-counts
far_over-requires-clause-counts c =
    let rows = c.self.inside.rows in
    class_counts (tables_of rows) (beside_of rows) c.self.invariant.0.kept
