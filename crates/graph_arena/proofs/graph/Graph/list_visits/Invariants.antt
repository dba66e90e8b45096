use Rattle.std.proofs.Common.{◌≡◌, length}
use Rattle.ice_encoding.specs.Visiting.{most, order, visit_at, visit_each}
use Rattle.graph_arena.specs.Arena.{AreBelow}
use Rattle.graph_arena.specs.Listing.{from_top}
use Rattle.graph_arena.proofs.Visits.{work}
use Rattle.graph_arena.proofs.graph.Graph.list_visits.Given as goal

abbrev pub invariant-loop-place : goal.invariant-loop-place
invariant-loop-place l = record {
  left : visit_each (visit_at most l.self) (from_top l.pending) l.listing.places ≡ order l.self;
  below : AreBelow (length l.self.instances) (from_top l.pending);
  count : l.listing.count ≡ length l.self.instances;
}

abbrev pub decreases-loop-place : goal.decreases-loop-place
decreases-loop-place l = work l.self l.listing.places l.pending
