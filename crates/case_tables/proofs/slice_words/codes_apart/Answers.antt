use Rattle.case_tables.proofs.Places.{one_place}
use Rattle.case_tables.specs.Tables.{names_seen}
use Rattle.case_tables.proofs.slice_words.codes_apart.Goals as goal

pub returns : goal.returns
returns g c = one_place (names_seen c.args.table.now.names.now) c.args.table.now.distinct
