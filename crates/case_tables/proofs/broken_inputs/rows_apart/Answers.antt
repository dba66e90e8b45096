use Rattle.case_tables.proofs.Places.{one_place}
use Rattle.case_tables.specs.BrokenRows.{row_names}
use Rattle.case_tables.specs.Broken.{rows_of}
use Rattle.case_tables.proofs.broken_inputs.rows_apart.Goals as goal

pub returns : goal.returns
returns g c = one_place (row_names (rows_of c.args.table.now)) c.args.table.now.distinct
