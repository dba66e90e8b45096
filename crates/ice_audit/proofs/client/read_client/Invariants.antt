use Rattle.std.proofs.Common.{◌≡◌, ◌≤◌, ◌-◌, None, length}
use Rattle.ice_prims.specs.Rest.{IsBytes}
use Rattle.ice_audit.proofs.Reading.{ClientGoesOn}
use Rattle.ice_audit.proofs.client.read_client.Given as goal

abbrev pub invariant-loop-asked : goal.invariant-loop-asked
invariant-loop-asked l = record {
  goes : ClientGoesOn l.fn.bytes l.frames.bytes (length l.fn.bytes - length l.frames.bytes) l.stage l.asked.posed.items l.asked.due.items;
  running : l.frames.stopped ≡ None;
  within : length l.frames.bytes ≤ length l.fn.bytes;
  sort : IsBytes l.frames.bytes;
}

abbrev pub decreases-loop-asked : goal.decreases-loop-asked
decreases-loop-asked l = length l.frames.bytes
