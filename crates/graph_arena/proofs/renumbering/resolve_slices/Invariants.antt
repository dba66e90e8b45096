use Rattle.std.proofs.Common.{◌≡◌, map}
use Rattle.ice_encoding.specs.References.{entry_in}
use Rattle.graph_arena.specs.Seen.{view_slice}
use Rattle.graph_arena.proofs.Renaming.{slice_renamed, so_far}
use Rattle.graph_arena.proofs.renumbering.resolve_slices.Given as goal

abbrev pub invariant-loop-slice : goal.invariant-loop-slice
invariant-loop-slice l = so_far (slice_renamed (entry_in l.table)) view_slice l.slices l.slice-index ≡ map (slice_renamed (entry_in l.table)) l.fn.slices
