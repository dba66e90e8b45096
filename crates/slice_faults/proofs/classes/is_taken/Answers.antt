use Rattle.std.proofs.Common.{sym, ◌∙◌}
use Rattle.slice_faults.proofs.ClassFaults.{number_taken}
use Rattle.slice_faults.proofs.classes.is_taken.Goals as goal

pub returns : goal.returns
returns c = c.is_some.ensures ∙ sym (number_taken c.args.known.now.rows c.args.number c.class_numbered.result c.class_numbered.ensures)
