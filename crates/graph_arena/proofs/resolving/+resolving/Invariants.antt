use Rattle.std.proofs.Common.{◌≡◌, map}
use Rattle.ice_encoding.specs.References.{entry_in}
use Rattle.graph_arena.specs.View.{view, view_pair}
use Rattle.graph_arena.proofs.Renaming.{renamed_pair, renamed_view, so_far}
use Rattle.graph_arena.proofs.resolving.+resolving.Given as goal

abbrev pub invariant-resolve_each-loop-item : goal.invariant-resolve_each-loop-item
invariant-resolve_each-loop-item l = record {
  unvisited : goal.unvisited-resolve_each-loop-item l;
  put : so_far (renamed_view (entry_in l.table)) view l.items l.item-index ≡ map (renamed_view (entry_in l.table)) l.fn.items;
}

abbrev pub invariant-resolve_pairs-loop-pair : goal.invariant-resolve_pairs-loop-pair
invariant-resolve_pairs-loop-pair l = record {
  unvisited : goal.unvisited-resolve_pairs-loop-pair l;
  put : so_far (renamed_pair (entry_in l.table)) view_pair l.pairs l.pair-index ≡ map (renamed_pair (entry_in l.table)) l.fn.pairs;
}
