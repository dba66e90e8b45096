use Rattle.std.proofs.Common.{◌≡◌, ◌++◌, ◌≤◌, length, drop}
use Rattle.ice_audit.specs.Lines.{lines_of}
use Rattle.ice_audit.proofs.drawing.lines.Given as goal

-- the lines so far, and those of what was asked and of the replies that are left
abbrev pub invariant-loop-item : goal.invariant-loop-item
invariant-loop-item l = record {
  so_far : l.lines.items ++ lines_of (drop l.item-index l.posed) (drop l.at l.statuses) l.closed ≡ lines_of l.fn.posed l.fn.statuses l.fn.closed;
  within : l.at ≤ length l.statuses;
}
