-- Whether some instance begins with an unknown slice. (Ice manual, "Data Encoding for Class and Exception Types".)
use Rattle.std.specs.Prelude.{ℕ, ◌<◌, ◌≡◌, List, length, Option, None, Some, Result, Ok, Err, slice_index}
use Rattle.ice_encoding.specs.Graph.{Graph}
use Rattle.ice_encoding.specs.Instances.{slices_of}
use Rattle.ice_encoding.specs.CanonicalGraph.{Format, sliced, compact}
use Rattle.class_slices.specs.declared.write_fault.WriteFault.{WriteFault}
use Rattle.class_slices.specs.declared.write_fault.WriteFault.TheVariants.{UnknownNeedsSliced, TooLong, Memory}
use Rattle.class_slices.specs.Encoding.{BeginsUnknown, ReachesUnknown, NeedsSliced, IsFirstUnknown}

-- the first that is reached, None where none is
abbrev pub FindsFirstUnknown : Graph → Option ℕ → Type 0
FindsFirstUnknown g None = (n : ℕ) → ReachesUnknown g n → ⊥
FindsFirstUnknown g (Some n) = IsFirstUnknown g n

module _ (g : Graph) (places : List ℕ) where
  -- at one of these places
  abbrev pub IsUnknownAt : ℕ → Type 0
  IsUnknownAt k = BeginsUnknown (slices_of g.instances (slice_index places k))

  -- the first of them
  abbrev pub IsFirstUnknownOf : Option ℕ → Type 0
  IsFirstUnknownOf None = (k : ℕ) → k < length places → IsUnknownAt k → ⊥
  IsFirstUnknownOf (Some n) = (i : ℕ) × (i < length places) × (slice_index places i ≡ n) × BeginsUnknown (slices_of g.instances n) × ((k : ℕ) → k < i → IsUnknownAt k → ⊥)

-- only for compact format the instances are looked at, which may want memory
abbrev pub LooksAtAll : Format → Type 0
LooksAtAll sliced = ⊥
LooksAtAll compact = Unit {0}

-- refused exactly where the format cannot carry the graph
abbrev pub Allows : Format → Graph → Result (Unit {0}) WriteFault → Type 0
Allows f g (Ok done) = NeedsSliced f g → ⊥
Allows f g (Err (UnknownNeedsSliced n)) = NeedsSliced f g × IsFirstUnknown g n
Allows f g (Err (TooLong n)) = ⊥
Allows f g (Err Memory) = LooksAtAll f
