use Rattle.std.proofs.Common.{◌≡◌}
use Rattle.ice_encoding.specs.Instances.{most_instances}
use Rattle.value_parts.specs.declared.sliced_type.SlicedType.TheVariants as sorts
use Rattle.instance_reading.specs.Stacked.{instance_within}
use Rattle.instance_reading.specs.Unfinished.{left_slices, room}
use Rattle.instance_reading.proofs.exception.read_through.Given as goal

abbrev pub invariant-loop-user_exception : goal.invariant-loop-user_exception
invariant-loop-user_exception l = record {
  left : left_slices (instance_within l.schema most_instances) sorts.Exception l.schema l.fn.user_exception l.fn.arena l.fn.cursor
      ≡ left_slices (instance_within l.schema most_instances) sorts.Exception l.schema l.user_exception l.arena l.cursor;
}

abbrev pub decreases-loop-user_exception : goal.decreases-loop-user_exception
decreases-loop-user_exception l = room l.arena
