use Rattle.std.proofs.Common.{ℕ, ◌<◌, Some}
use Rattle.std.specs.Prelude.{slice_get, ◌≢◌}
use Rattle.ice_types.specs.Inherited.{bases_by_path}
use Rattle.ice_types.proofs.inheritance.is_or_has_base.Given as goal

-- none of the bases so far is this one
abbrev pub invariant-loop-place : goal.invariant-loop-place
invariant-loop-place l = (k : ℕ) → k < l.place → slice_get (bases_by_path l.interfaces l.interface) k ≢ Some l.base
