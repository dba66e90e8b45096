use Rattle.std.proofs.Common.{◌≡◌, drop}
use Rattle.graph_json.specs.View.{items_view}
use Rattle.graph_arena.specs.Seen.{view_slices}
use Rattle.graph_json.specs.Reading.{items_of, slice_of}
use Rattle.graph_json.proofs.Walking.{joined}
use Rattle.graph_json.proofs.slices.each_slice.Given as goal

-- the slices so far, and those that are still read
abbrev pub invariant-loop-item : goal.invariant-loop-item
invariant-loop-item l = joined (view_slices l.slices) (items_of (slice_of l.schema) (items_view (drop l.item-index l.items))) ≡ items_of (slice_of l.schema) (items_view l.items)
