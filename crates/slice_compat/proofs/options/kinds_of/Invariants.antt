use Rattle.std.proofs.Common.{drop}
use Rattle.slice_compat.specs.Tagged.{HasKinds}
use Rattle.slice_compat.proofs.options.kinds_of.Given as goal

-- the types of the members from here on
abbrev pub invariant-loop-at : goal.invariant-loop-at
invariant-loop-at l = HasKinds l.kinds (drop l.at l.members)
