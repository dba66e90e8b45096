use Rattle.graph_arena.specs.Seen.{view_slices}
use Rattle.graph_json.specs.Canonical.{items_noted, slice_noted}
use Rattle.graph_json.proofs.Printing.{IsLeft}
use Rattle.graph_json.proofs.writing.write_slices.Given as goal

abbrev pub invariant-loop-slice : goal.invariant-loop-slice
invariant-loop-slice l = IsLeft (λ slices. items_noted (slice_noted l.schema) (view_slices slices)) l.slices l.slice-index l.initial.out l.out
