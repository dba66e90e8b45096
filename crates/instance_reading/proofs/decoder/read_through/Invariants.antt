use Rattle.std.proofs.Common.{◌≡◌}
use Rattle.ice_encoding.specs.Instances.{most_instances}
use Rattle.ice_encoding.specs.References.{inline_at}
use Rattle.value_parts.specs.Shapes.{handed}
use Rattle.ice_values.specs.Unread.{left_of_members}
use Rattle.instance_reading.specs.Stacked.{instance_within}
use Rattle.instance_reading.specs.Unfinished.{room}
use Rattle.instance_reading.proofs.decoder.read_through.Given as goal

abbrev pub invariant-loop-members : goal.invariant-loop-members
invariant-loop-members l = record {
  left : left_of_members (inline_at most_instances) l.schema (instance_within l.schema most_instances) (handed l.fields) l.fn.reader l.fn.arena l.fn.cursor
      ≡ left_of_members (inline_at most_instances) l.schema (instance_within l.schema most_instances) (handed l.fields) l.reader l.arena l.cursor;
}

abbrev pub decreases-loop-members : goal.decreases-loop-members
decreases-loop-members l = room l.arena
