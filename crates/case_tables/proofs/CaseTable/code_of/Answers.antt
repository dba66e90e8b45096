use Rattle.std.proofs.Common.{sym, ◌∙◌}
use Rattle.std.specs.Str.{bytes_eq}
use Rattle.case_tables.specs.Tables.{names_seen}
use Rattle.case_tables.proofs.Places.{position-seen, row_found, no_row}
use Rattle.case_tables.proofs.CaseTable.code_of.Goals as goal

pub returns-in-Some-clause-place : goal.returns-in-Some-clause-place
returns-in-Some-clause-place g c = c.in-Some.ensures ∙ position-seen (bytes_eq c.args.name.now) c.args.self.now.names.now

pub returns-in-None-clause-place : goal.returns-in-None-clause-place
returns-in-None-clause-place g c = c.in-None.ensures ∙ position-seen (bytes_eq c.args.name.now) c.args.self.now.names.now

pub returns-in-Some-clause-row : goal.returns-in-Some-clause-row
returns-in-Some-clause-row g c = (row_found (names_seen c.args.self.now.names.now) c.args.name.now c.in-Some.place (sym (returns-in-Some-clause-place g c))).1

pub returns-in-None-clause-row : goal.returns-in-None-clause-row
returns-in-None-clause-row g c = no_row (names_seen c.args.self.now.names.now) c.args.name.now (sym (returns-in-None-clause-place g c))
