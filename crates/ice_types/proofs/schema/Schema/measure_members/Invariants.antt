use Rattle.std.proofs.Common.{◌≡◌, ◌≤◌, Some, drop}
use Rattle.ice_types.specs.Measures.{measure, measured, measure_members, with_member}
use Rattle.ice_types.proofs.schema.Schema.measure_members.Given as goal

abbrev pub invariant-loop-member : goal.invariant-loop-member
invariant-loop-member l = record {
  joined : measure_members (measure l.self 99) l.members ≡ measured (measure_members (measure l.self 99) (drop l.member-index l.members)) (λ rest. Some (with_member l.together rest));
  small : l.together.smallest ≤ 1048576;
  depth : l.together.depth ≤ 99;
}
