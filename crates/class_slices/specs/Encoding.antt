-- What comes of a graph that is encoded.
use Rattle.std.specs.Prelude.{ℕ, ◌≡◌, ◌<◌, ◌≤◌, List, [], ◌∷◌, length, Result, Ok, Err, Vec}
use Rattle.std.specs.declared.alloc.Global.{Global}
use Rattle.ice_types.specs.declared.declarations.Shape.{Shape}
use Rattle.ice_types.specs.Tables.{Tables}
use Rattle.ice_encoding.specs.Graph.{Slice, known, unknown, Graph}
use Rattle.ice_encoding.specs.Instances.{slices_of}
use Rattle.ice_encoding.specs.TypedGraph.{AreMembers, OfType, RefersIn}
use Rattle.ice_encoding.specs.Visiting.{place, order}
use Rattle.ice_encoding.specs.CanonicalGraph.{Format, sliced, compact, graph_bytes, IsWritable}
use Rattle.value_checks.specs.First.{IsFirstIll}
use Rattle.class_slices.specs.declared.write_fault.WriteFault.{WriteFault}
use Rattle.class_slices.specs.declared.write_fault.WriteFault.TheVariants as write_faults
use Rattle.class_slices.specs.declared.encode_fault.EncodeFault.{EncodeFault}
use Rattle.class_slices.specs.declared.encode_fault.EncodeFault.TheVariants as encode_faults

-- ---- unknown slices, which stand before the known ones of an instance

-- an instance has an unknown slice (these stand before known ones)
abbrev pub BeginsUnknown : List Slice → Type 0
BeginsUnknown [] = ⊥
BeginsUnknown (known class content ∷ ss) = ⊥
BeginsUnknown (unknown id bytes optionals table ∷ ss) = Unit {0}

-- the instance at this place is reached, and has one
abbrev pub ReachesUnknown : Graph → ℕ → Type 0
ReachesUnknown g n = (place (order g) n < length (order g)) × BeginsUnknown (slices_of g.instances n)

-- compact format cannot carry one
abbrev pub NeedsSliced : Format → Graph → Type 0
NeedsSliced sliced g = ⊥
NeedsSliced compact g = (n : ℕ) × ReachesUnknown g n

-- the first that is reached and has one, in the order of first visits
abbrev pub IsFirstUnknown : Graph → ℕ → Type 0
IsFirstUnknown g n = ReachesUnknown g n × ((m : ℕ) → place (order g) m < place (order g) n → BeginsUnknown (slices_of g.instances m) → ⊥)

-- ---- what comes of writing

-- the canonical encapsulation in the format, where the graph can be written in that and it is not longer than the limit;
-- else the first instance that has an unknown slice, or the length
abbrev pub Writes : Tables → Shape → Format → Graph → ℕ → Result (Vec ℕ Global) WriteFault → Type 0
Writes t shape f g limit (Ok out) = IsWritable f g × (out.items ≡ graph_bytes t shape f g) × (length out.items ≤ limit)
Writes t shape f g limit (Err (write_faults.UnknownNeedsSliced n)) = NeedsSliced f g × IsFirstUnknown g n
Writes t shape f g limit (Err (write_faults.TooLong n)) = IsWritable f g × (n ≡ length (graph_bytes t shape f g)) × (limit < n)
Writes t shape f g limit (Err write_faults.Memory) = Unit {0}

-- what writing comes to
abbrev pub of_write : WriteFault → EncodeFault
of_write (write_faults.UnknownNeedsSliced n) = encode_faults.UnknownNeedsSliced n
of_write (write_faults.TooLong n) = encode_faults.TooLong n
of_write write_faults.Memory = encode_faults.Memory

-- The same of a graph of the type, and of any other its first part that is not of its type. Roots that are not of their types
-- are told whatever memory there is.
abbrev pub EncodesGraph : Tables → Shape → Format → Graph → ℕ → Result (Vec ℕ Global) EncodeFault → Type 0
EncodesGraph t shape f g limit (Ok out) = OfType t shape g × Writes t shape f g limit (Ok out)
EncodesGraph t shape f g limit (Err (encode_faults.IllTyped at)) = IsFirstIll t g shape at
EncodesGraph t shape f g limit (Err (encode_faults.UnknownNeedsSliced n)) = OfType t shape g × Writes t shape f g limit (Err (write_faults.UnknownNeedsSliced n))
EncodesGraph t shape f g limit (Err (encode_faults.TooLong n)) = OfType t shape g × Writes t shape f g limit (Err (write_faults.TooLong n))
EncodesGraph t shape f g limit (Err encode_faults.Memory) = AreMembers t (RefersIn t g.instances) shape g.roots
