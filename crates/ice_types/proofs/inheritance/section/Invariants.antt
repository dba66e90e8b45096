use Rattle.std.proofs.Common.{◌≡◌, ◌≤◌, drop}
use Rattle.ice_types.specs.Inherited.{located}
use Rattle.ice_types.specs.Kept.{counted}
use Rattle.ice_types.proofs.inheritance.section.Given as goal

abbrev pub invariant-loop-base : goal.invariant-loop-base
invariant-loop-base l = record {
  found : located (counted l.counts) (drop l.base-index l.bases) l.left ≡ located (counted l.counts) l.bases l.fn.place;
  within : l.left ≤ l.fn.place;
}
