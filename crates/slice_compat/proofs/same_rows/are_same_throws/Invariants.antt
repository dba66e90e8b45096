use Rattle.std.proofs.Common.{drop}
use Rattle.std.specs.Prelude.{◌↔◌}
use Rattle.ice_types.specs.Lacking.{AreSame, SameThrow}
use Rattle.slice_compat.proofs.same_rows.are_same_throws.Given as goal

-- those that are left decide
abbrev pub invariant-loop-at : goal.invariant-loop-at
invariant-loop-at l = AreSame (SameThrow l.one l.other) (drop l.at l.own) (drop l.at l.throws) ↔ AreSame (SameThrow l.one l.other) l.own l.throws
