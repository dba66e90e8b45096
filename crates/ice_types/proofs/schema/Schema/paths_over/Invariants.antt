use Rattle.std.proofs.Common.{◌≡◌, ◌+◌, drop}
use Rattle.ice_types.specs.Fits.{paths_over}
use Rattle.ice_types.proofs.schema.Schema.paths_over.Given as goal

abbrev pub invariant-loop-base : goal.invariant-loop-base
invariant-loop-base l = l.paths + paths_over l.self (drop l.base-index l.bases) ≡ paths_over l.self l.bases
