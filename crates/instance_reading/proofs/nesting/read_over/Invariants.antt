use Rattle.std.proofs.Common.{◌≡◌, ◌≤◌, map}
use Rattle.ice_encoding.specs.Instances.{most_instances}
use Rattle.instance_reading.specs.Stacked.{instance_within, is_within, resumed, stack_left, steps_left}
use Rattle.instance_reading.specs.Unfinished.{room}
use Rattle.instance_reading.proofs.nesting.read_over.Given as goal

abbrev pub invariant-loop-top : goal.invariant-loop-top
invariant-loop-top l = record {
  left : instance_within l.schema most_instances l.name l.fn.arena l.fn.cursor ≡ stack_left l.schema (map resumed l.stack) l.arena l.cursor;
  within : is_within (map resumed l.stack) l.arena;
  room : room l.arena ≤ room l.fn.arena;
}

abbrev pub decreases-loop-top : goal.decreases-loop-top
decreases-loop-top l = steps_left (map resumed l.stack) l.arena
