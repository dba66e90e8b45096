use Rattle.slice_meaning.proofs.KnownRows.{rows_at_start, rows_after, rows_next_file, rows_class_name, rows_interface_name}
use Rattle.slice_meaning.proofs.laws.rows_known.Goals as goal

pub returns-clause-start : goal.returns-clause-start
returns-clause-start c = rows_at_start

pub returns-clause-after : goal.returns-clause-after
returns-clause-after c = rows_after

pub returns-clause-next : goal.returns-clause-next
returns-clause-next c = rows_next_file

pub returns-clause-class : goal.returns-clause-class
returns-clause-class c = rows_class_name

pub returns-clause-interface : goal.returns-clause-interface
returns-clause-interface c = rows_interface_name
