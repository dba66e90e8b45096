use Rattle.std.proofs.Common.{drop}
use Rattle.std.specs.Prelude.{◌↔◌}
use Rattle.ice_types.specs.Lacking.{AreSame, SameMember}
use Rattle.slice_compat.proofs.same_rows.are_same_members.Given as goal

-- those that are left decide
abbrev pub invariant-loop-at : goal.invariant-loop-at
invariant-loop-at l = AreSame (SameMember l.one l.other) (drop l.at l.own) (drop l.at l.members) ↔ AreSame (SameMember l.one l.other) l.own l.members
