use Rattle.std.proofs.Common.{◌≡◌, drop}
use Rattle.ice_encoding.specs.Instances.{class_of}
use Rattle.graph_arena.specs.Seen.{view_slices}
use Rattle.graph_arena.proofs.instance.class_of.Given as goal

abbrev pub invariant-loop-slice : goal.invariant-loop-slice
invariant-loop-slice l = class_of (view_slices (drop l.slice-index l.slices)) ≡ class_of (view_slices l.slices)
