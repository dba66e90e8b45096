-- Whether the slices of an exception, or an instance that they lead to, begin with an unknown slice.
use Rattle.std.specs.Prelude.{ℕ, List, Option, None, Some, Result, Ok, Err}
use Rattle.ice_encoding.specs.CanonicalGraph.{Format, sliced, compact}
use Rattle.ice_encoding.specs.Graph.{Graph, Slice}
use Rattle.class_slices.specs.Encoding.{BeginsUnknown, ReachesUnknown, IsFirstUnknown}
use Rattle.class_slices.specs.declared.user_exception_fault.UserExceptionFault.{UserExceptionFault}
use Rattle.class_slices.specs.declared.user_exception_fault.UserExceptionFault.TheVariants.{IllTyped, UnknownNeedsSliced, TooLong, Memory}

-- none of them does, or the format has a place for those
abbrev pub Carries : Format → List Slice → Graph → Type 0
Carries sliced slices g = Unit {0}
Carries compact slices g = (BeginsUnknown slices → ⊥) × ((n : ℕ) → ReachesUnknown g n → ⊥)

-- the first that does, where the format has none
abbrev pub Lacks : Format → List Slice → Graph → Option ℕ → Type 0
Lacks sliced slices g at = ⊥
Lacks compact slices g None = BeginsUnknown slices
Lacks compact slices g (Some n) = (BeginsUnknown slices → ⊥) × IsFirstUnknown g n

-- refused exactly where the format cannot carry them
abbrev pub Allows : Format → List Slice → Graph → Result (Unit {0}) UserExceptionFault → Type 0
Allows f slices g (Ok done) = Carries f slices g
Allows f slices g (Err (UnknownNeedsSliced at)) = Lacks f slices g at
Allows f slices g (Err (IllTyped at)) = ⊥
Allows f slices g (Err (TooLong n)) = ⊥
Allows f slices g (Err Memory) = Unit {0}
