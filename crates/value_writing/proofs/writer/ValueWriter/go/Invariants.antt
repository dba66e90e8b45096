use Rattle.std.proofs.Common.{◌≡◌, ◌≤◌}
use Rattle.ice_prims.specs.Bytes.{Grows}
use Rattle.value_writing.specs.Putting.{InsideWritten, lists, left_written, onto, all_fit, work_left}
use Rattle.value_writing.proofs.writer.ValueWriter.go.Given as goal

abbrev pub invariant-loop-name : goal.invariant-loop-name
invariant-loop-name g l = record {
  left : (inside : InsideWritten _) → onto (left_written g.P.PutPort.put inside (lists l.fn.self)) (l.fn.port, l.fn.out.items) ≡ onto (left_written g.P.PutPort.put inside (lists l.self)) (l.port, l.out.items);
  fits : all_fit (lists l.self);
  room : g.P.PutPort.room l.port ≤ g.P.PutPort.room l.fn.port;
  grown : Grows l.fn.out.items l.out.items;
}

abbrev pub decreases-loop-name : goal.decreases-loop-name
decreases-loop-name g l = work_left (lists l.self)
