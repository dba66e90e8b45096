use Rattle.std.proofs.Common.{ℕ, ◌≡◌, ◌≤◌}
use Rattle.ice_encoding.specs.Pausing.{Inside}
use Rattle.ice_encoding.specs.References.{State}
use Rattle.instance_reading.specs.Unfinished.{left_slices, room, work_left}
use Rattle.instance_reading.proofs.unfinished.Unfinished.go.Given as goal

abbrev pub invariant-loop-name : goal.invariant-loop-name
invariant-loop-name l = record {
  left : (inside : Inside (State ℕ)) → left_slices inside l.sort l.schema l.fn.self l.fn.arena l.fn.cursor ≡ left_slices inside l.sort l.schema l.self l.arena l.cursor;
  name : l.self.name ≡ l.fn.self.name;
  room : room l.arena ≤ room l.fn.arena;
}

abbrev pub decreases-loop-name : goal.decreases-loop-name
decreases-loop-name l = work_left l.self
