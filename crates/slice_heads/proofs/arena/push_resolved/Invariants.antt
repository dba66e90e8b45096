use Rattle.std.proofs.Common.{◌≡◌, ◌++◌, drop}
use Rattle.ice_encoding.specs.References.{resolved}
use Rattle.slice_heads.specs.Seen.{view_references}
use Rattle.slice_heads.proofs.arena.push_resolved.Given as goal

abbrev pub invariant-loop-used : goal.invariant-loop-used
invariant-loop-used l = record {
  so_far : view_references l.met.items ++ resolved l.table (view_references (drop l.used-index l.uses)) ≡ view_references l.fn.met.items ++ resolved l.table (view_references l.uses);
}
