use Rattle.std.proofs.Common.{◌≤◌, length, take}
use Rattle.ice_types.specs.declared.schema.TheConstants.{MOST_DEPTH}
use Rattle.canonical_inputs.specs.Places.{FrontPut, kinds_from}
use Rattle.canonical_inputs.proofs.member.pass_members.Given as goal

abbrev pub invariant-loop-next : goal.invariant-loop-next
invariant-loop-next l = record {
  within : l.at ≤ length l.bytes;
  put : FrontPut l.schema MOST_DEPTH (kinds_from 0 l.members) (kinds_from l.next l.members) l.fn.needs.items l.needs.items (take l.at l.bytes);
}
