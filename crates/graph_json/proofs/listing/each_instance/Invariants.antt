use Rattle.std.proofs.Common.{◌≡◌, drop, map}
use Rattle.graph_json.specs.View.{items_view}
use Rattle.graph_arena.specs.Seen.{view_instance}
use Rattle.graph_json.specs.Reading.{items_of, instance_of}
use Rattle.graph_json.proofs.Walking.{joined}
use Rattle.graph_json.proofs.listing.each_instance.Given as goal

-- the instances so far, and those that are still read
abbrev pub invariant-loop-item : goal.invariant-loop-item
invariant-loop-item l = joined (map view_instance l.instances.items) (items_of (instance_of l.schema) (items_view (drop l.item-index l.items))) ≡ items_of (instance_of l.schema) (items_view l.items)
