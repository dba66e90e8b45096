use Rattle.std.proofs.Common.{◌≡◌, ◌≤◌, map, drop, length}
use Rattle.ice_encoding.specs.Instances.{misfit}
use Rattle.graph_arena.specs.Seen.{view_instance}
use Rattle.slice_heads.specs.Seen.{view_references}
use Rattle.slice_heads.proofs.fitting.misfit.Given as goal

abbrev pub invariant-loop-at : goal.invariant-loop-at
invariant-loop-at l = record {
  so_far : l.first ≡ misfit l.schema (map view_instance l.instances) (view_references (drop l.at l.met));
  within : l.at ≤ length l.met;
}

abbrev pub decreases-loop-at : goal.decreases-loop-at
decreases-loop-at l = l.at
