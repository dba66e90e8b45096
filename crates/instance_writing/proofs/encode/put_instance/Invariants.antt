use Rattle.std.proofs.Common.{◌≡◌, ◌+◌, ◌≤◌, ◌-◌, length}
use Rattle.ice_encoding.specs.Visiting.{most}
use Rattle.value_writing.specs.Putting.{onto}
use Rattle.instance_writing.specs.Formats.{view_format}
use Rattle.instance_writing.specs.Pens.{room}
use Rattle.instance_writing.specs.Remains.{AllFit, inside_at, stack_left, steps_left}
use Rattle.instance_writing.proofs.encode.put_instance.Given as goal

abbrev pub invariant-loop-top : goal.invariant-loop-top
invariant-loop-top l = record {
  left : onto (inside_at l.by.schema.now (view_format l.by.format) l.graph most l.name) (l.fn.pen, l.fn.out.items) ≡ stack_left l.by.schema.now (view_format l.by.format) l.graph (most - 1) l.stack (l.pen, l.out.items);
  fits : AllFit l.by.schema.now (length l.graph.instances) l.stack l.out.items;
  deep : length l.stack + room l.pen ≤ most;
  desk : l.desk.table ≡ l.fn.desk.table;
  room : room l.pen ≤ room l.fn.pen;
}

abbrev pub decreases-loop-top : goal.decreases-loop-top
decreases-loop-top l = steps_left (room l.pen) (length l.stack)
