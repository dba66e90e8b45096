use Rattle.std.proofs.Common.{◌≡◌, drop}
use Rattle.slice_heads.specs.Seen.{view_references}
use Rattle.instance_reading.specs.Slices.{first_outside}
use Rattle.instance_reading.proofs.sized.first_outside.Given as goal

abbrev pub invariant-loop-used : goal.invariant-loop-used
invariant-loop-used l = record {
  so_far : first_outside l.count (view_references l.uses) ≡ first_outside l.count (view_references (drop l.used-index l.uses));
}
