use Rattle.std.proofs.Common.{◌≡◌, drop}
use Rattle.graph_json.specs.View.{items_view}
use Rattle.graph_json.specs.ReadingValues.{name_of}
use Rattle.graph_json.specs.Reading.{items_of}
use Rattle.graph_json.proofs.Walking.{joined}
use Rattle.graph_json.proofs.slices.each_name.Given as goal

-- the names so far, and those that are still read
abbrev pub invariant-loop-item : goal.invariant-loop-item
invariant-loop-item l = joined l.names (items_of name_of (items_view (drop l.item-index l.items))) ≡ items_of name_of (items_view l.items)
