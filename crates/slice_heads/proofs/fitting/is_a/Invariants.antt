use Rattle.std.proofs.Common.{◌≡◌, suc, length}
use Rattle.ice_encoding.specs.Classes.{leads_to}
use Rattle.slice_heads.proofs.fitting.is_a.Given as goal

abbrev pub invariant-loop-class : goal.invariant-loop-class
invariant-loop-class l = record {
  so_far : leads_to l.schema (suc l.left) l.base l.class ≡ leads_to l.schema (suc (length l.schema.classes)) l.base l.fn.class;
}

abbrev pub decreases-loop-class : goal.decreases-loop-class
decreases-loop-class l = l.left
