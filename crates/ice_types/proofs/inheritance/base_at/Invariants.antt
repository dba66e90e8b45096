use Rattle.std.proofs.Common.{◌≡◌, ◌∷◌}
use Rattle.std.specs.Prelude.{slice_get}
use Rattle.ice_types.specs.Inherited.{bases_by_path}
use Rattle.ice_types.proofs.inheritance.base_at.Given as goal

abbrev pub invariant-loop-within : goal.invariant-loop-within
invariant-loop-within l = slice_get (l.base ∷ bases_by_path l.interfaces l.base) l.within ≡ slice_get (bases_by_path l.interfaces l.fn.interface) l.fn.place

abbrev pub decreases-loop-within : goal.decreases-loop-within
decreases-loop-within l = l.within
