use Rattle.std.proofs.Common.{ℕ, suc, ◌≤◌, ◌-◌, length, take, replicate}
use Rattle.ice_types.specs.declared.kind.TypeRef.TheVariants as kinds
use Rattle.canonical_inputs.specs.Places.{FrontPut}
use Rattle.canonical_inputs.proofs.member.pass_each.Given as goal

abbrev pub invariant-loop : goal.invariant-loop
invariant-loop l = record {
  within : l.at ≤ length l.bytes;
  put : (levels : ℕ) → FrontPut l.schema (suc levels) (replicate l.fn.count (kinds.Class l.fn.declared)) (replicate (l.fn.count - l.counter) (kinds.Class l.fn.declared)) l.fn.needs.items l.needs.items (take l.at l.bytes);
}
