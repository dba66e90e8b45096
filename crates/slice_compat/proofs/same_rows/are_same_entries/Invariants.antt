use Rattle.std.proofs.Common.{drop}
use Rattle.std.specs.Prelude.{◌↔◌}
use Rattle.ice_types.specs.Lacking.{AreSame, SameEntry}
use Rattle.slice_compat.proofs.same_rows.are_same_entries.Given as goal

-- those that are left decide
abbrev pub invariant-loop-at : goal.invariant-loop-at
invariant-loop-at l = AreSame SameEntry (drop l.at l.own) (drop l.at l.entries) ↔ AreSame SameEntry l.own l.entries
