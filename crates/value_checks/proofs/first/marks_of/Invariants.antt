use Rattle.std.proofs.Common.{◌≡◌, length, take}
use Rattle.graph_arena.specs.Listing.{Marks}
use Rattle.value_checks.proofs.first.marks_of.Given as goal

abbrev pub invariant-loop-place : goal.invariant-loop-place
invariant-loop-place l = record {
  size : length l.marks.items ≡ l.count;
  marked : Marks l.marks.items (take l.place-index l.places);
}
