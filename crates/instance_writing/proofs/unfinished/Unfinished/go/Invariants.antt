use Rattle.std.proofs.Common.{◌≡◌, ◌≤◌, length}
use Rattle.ice_encoding.specs.CanonicalGraph.{Pen}
use Rattle.value_writing.specs.Putting.{InsideWritten}
use Rattle.value_parts.specs.SlicedType.{rows_of}
use Rattle.instance_writing.specs.Formats.{view_format}
use Rattle.instance_writing.specs.Pens.{room}
use Rattle.instance_writing.specs.Remains.{instance_left, Fits}
use Rattle.instance_writing.proofs.unfinished.Unfinished.go.Given as goal

abbrev pub invariant-loop-name : goal.invariant-loop-name
invariant-loop-name l = record {
  goes : (inside : InsideWritten Pen) → instance_left l.sort l.by.schema.now (view_format l.by.format) inside l.fn.self (l.fn.pen, l.fn.out.items) ≡ instance_left l.sort l.by.schema.now (view_format l.by.format) inside l.self (l.pen, l.out.items);
  fits : Fits (rows_of l.sort l.by.schema.now) l.fn.desk.table.count l.self l.out.items;
  room : room l.pen ≤ room l.fn.pen;
  longer : length l.fn.out.items ≤ length l.out.items;
  desk : l.desk.table ≡ l.fn.desk.table;
}

abbrev pub decreases-loop-name : goal.decreases-loop-name
decreases-loop-name l = length l.self.slices.now
