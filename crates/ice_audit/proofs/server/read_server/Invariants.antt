use Rattle.std.proofs.Common.{◌≡◌, ◌≤◌, ◌-◌, None, length, drop}
use Rattle.ice_prims.specs.Rest.{IsBytes}
use Rattle.ice_audit.proofs.Reading.{ServerGoesOn}
use Rattle.ice_audit.proofs.server.read_server.Given as goal

abbrev pub invariant-loop-statuses : goal.invariant-loop-statuses
invariant-loop-statuses l = record {
  goes : ServerGoesOn l.fn.bytes l.fn.due l.frames.bytes (length l.fn.bytes - length l.frames.bytes) l.stage l.statuses.items (drop (length l.statuses.items) l.fn.due);
  running : l.frames.stopped ≡ None;
  within : length l.frames.bytes ≤ length l.fn.bytes;
  sort : IsBytes l.frames.bytes;
  due_within : length l.statuses.items ≤ length l.fn.due;
}

abbrev pub decreases-loop-statuses : goal.decreases-loop-statuses
decreases-loop-statuses l = length l.frames.bytes
