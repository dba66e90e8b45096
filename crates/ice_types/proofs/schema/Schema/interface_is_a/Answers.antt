use Rattle.ice_types.specs.Kept.{beside_of, tables_of}
use Rattle.ice_types.proofs.Counted.{interface_counts}
use Rattle.ice_types.proofs.schema.Schema.interface_is_a.Goals as goal

pub is_or_has_base-requires : goal.is_or_has_base-requires
is_or_has_base-requires c =
    let rows = c.self.inside.rows in
    interface_counts (tables_of rows) (beside_of rows) c.self.invariant.0.kept
