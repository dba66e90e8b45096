use Rattle.std.proofs.Common.{drop}
use Rattle.std.specs.Prelude.{◌↔◌}
use Rattle.slice_compat.specs.Reading.{HaveEntries}
use Rattle.slice_compat.proofs.enums.are_among.Given as goal

-- those that are left decide
abbrev pub invariant-loop-entry : goal.invariant-loop-entry
invariant-loop-entry l = HaveEntries (drop l.entry-index l.own) l.entries ↔ HaveEntries l.own l.entries
