use Rattle.std.proofs.Common.{◌≡◌, ◌≤◌, ℕ, length}
use Rattle.ice_types.specs.Tables.{Tables}
use Rattle.ice_encoding.specs.CanonicalGraph.{Pen}
use Rattle.graph_arena.specs.Arena.{AreBelow}
use Rattle.value_writing.specs.Putting.{InsideWritten}
use Rattle.instance_writing.specs.Pens.{room}
use Rattle.instance_writing.specs.Opened.{IsTabled, entries_in, is_first, open_left}
use Rattle.instance_writing.proofs.open_slice.OpenSlice.put_entries.Given as goal

abbrev pub invariant-loop-name : goal.invariant-loop-name
invariant-loop-name l = record {
  goes : (t : Tables) (inside : InsideWritten Pen) → open_left t inside l.fn.self (l.fn.pen, l.fn.out.items) ≡ open_left t inside l.self (l.pen, l.out.items);
  tabled : IsTabled l.self;
  below : (count : ℕ) → AreBelow count (entries_in l.fn.self) → AreBelow count (entries_in l.self);
  first : is_first l.self ≡ is_first l.fn.self;
  room : room l.pen ≤ room l.fn.pen;
  longer : length l.fn.out.items ≤ length l.out.items;
}

abbrev pub decreases-loop-name : goal.decreases-loop-name
decreases-loop-name l = length (entries_in l.self)
