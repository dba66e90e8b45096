use Rattle.std.proofs.Common.{◌≤◌, ◌++◌, ◌∷◌, [], drop, length}
use Rattle.canonical_values.specs.Standing.{IsCanonical}
use Rattle.canonical_values.specs.Frames.{FillAll}
use Rattle.canonical_values.proofs.walk.is_canonical.Given as goal

abbrev pub invariant-loop : goal.invariant-loop
invariant-loop l = record {
  within : l.at ≤ length l.bytes;
  canonical : FillAll l.schema l.bytes (l.below.items ++ l.top ∷ []) (drop l.at l.bytes) → IsCanonical l.schema l.fn.kind l.bytes;
}
