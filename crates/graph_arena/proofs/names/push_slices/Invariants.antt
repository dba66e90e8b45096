use Rattle.std.proofs.Common.{◌≡◌, ◌++◌, drop}
use Rattle.ice_encoding.specs.Names.{instance_names}
use Rattle.graph_arena.specs.Seen.{view_slices}
use Rattle.graph_arena.proofs.names.push_slices.Given as goal

abbrev pub invariant-loop-slice : goal.invariant-loop-slice
invariant-loop-slice l = l.names ++ instance_names (view_slices (drop l.slice-index l.slices)) ≡ l.initial.names ++ instance_names (view_slices l.slices)
