use Rattle.ice_types.specs.Kept.{beside_of, tables_of}
use Rattle.ice_types.proofs.Counted.{class_counts}
use Rattle.ice_types.proofs.schema.Schema.is_a.Goals as goal

pub derives_from-requires-clause-counts : goal.derives_from-requires-clause-counts
derives_from-requires-clause-counts c =
    let rows = c.self.inside.rows in
    class_counts (tables_of rows) (beside_of rows) c.self.invariant.0.kept
