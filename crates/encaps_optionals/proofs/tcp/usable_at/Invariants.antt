use Rattle.std.proofs.Common.{◌≡◌, drop}
use Rattle.std.specs.Prelude.{slice_get}
use Rattle.encaps_optionals.specs.Usable.{usable}
use Rattle.encaps_optionals.proofs.tcp.usable_at.Given as goal

abbrev pub invariant-loop-endpoint : goal.invariant-loop-endpoint
invariant-loop-endpoint l = slice_get (usable (drop l.endpoint-index l.endpoints)) l.before ≡ slice_get (usable l.fn.endpoints) l.at
