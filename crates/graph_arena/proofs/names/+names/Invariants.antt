use Rattle.std.proofs.Common.{◌≡◌, ◌++◌, drop}
use Rattle.ice_encoding.specs.Names.{names_each, names_pairs}
use Rattle.graph_arena.specs.View.{view_all, view_pairs}
use Rattle.graph_arena.proofs.names.+names.Given as goal

abbrev pub invariant-push_each-loop-item : goal.invariant-push_each-loop-item
invariant-push_each-loop-item l = l.names ++ names_each (view_all (drop l.item-index l.items)) ≡ l.initial.names ++ names_each (view_all l.items)

abbrev pub invariant-push_pairs-loop-pair : goal.invariant-push_pairs-loop-pair
invariant-push_pairs-loop-pair l = l.names ++ names_pairs (view_pairs (drop l.pair-index l.pairs)) ≡ l.initial.names ++ names_pairs (view_pairs l.pairs)
