-- What an input of two encapsulations holds, and what comes of comparing them.
use Rattle.std.specs.Prelude.{ℕ, ◌≡◌, ◌<◌, ◌≤◌, ◌⊎◌, ◌↔◌, Bool, IsTrue, List, ◌++◌, length, Result, Ok, Err}
use Rattle.ice_types.specs.declared.kind.TypeRef.{TypeRef}
use Rattle.ice_types.specs.Tables.{Tables}
use Rattle.ice_prims.specs.declared.fault.Fault.{Fault}
use Rattle.ice_prims.specs.Rest.{Rest, whole, ◌>>=◌}
use Rattle.ice_encoding.specs.Bounds.{filled}
use Rattle.ice_encoding.specs.Encapsulation.{encapsulated_at}
use Rattle.ice_encoding.specs.Graph.{Graph}
use Rattle.ice_encoding.specs.Flags.{all_slices}
use Rattle.ice_encoding.specs.Instances.{graph_at}
use Rattle.ice_encoding.specs.CanonicalGraph.{sliced}
use Rattle.ice_encoding.specs.SameGraph.{Same}
use Rattle.ice_relay.specs.declared.comparing.TheConstants.{MOST_COMPARED}
use Rattle.ice_relay.specs.declared.fault.RelayFault.{RelayFault}
use Rattle.ice_relay.specs.declared.fault.RelayFault.TheVariants as faults
use Rattle.ice_relay.specs.Relaying.{one_value, Holds, canonical_bytes}

-- The input is two encapsulations of values of the type, one after the other: these graphs.
abbrev pub HoldTwo : Tables → TypeRef → List ℕ → Graph → Graph → Type 0
HoldTwo t kind input g h = (first second : List ℕ) × (input ≡ first ++ second)
    × Holds t kind first g × Holds t kind second h

-- ---- as it is read

-- the graph of the encapsulation that begins here, and what follows it
abbrev pub next_held : Tables → TypeRef → Rest → Result (Graph × Rest) Fault
next_held t kind = encapsulated_at (graph_at t all_slices (one_value kind))

-- one of these that was read, and then another, and nothing after it
abbrev pub and_last : {A : Type 0} → (Rest → Result (A × Rest) Fault) → A × Rest → Result (A × A) Fault
and_last read first = filled read first.1 >>= λ second. Ok (first.0, second)

-- one of something, then another, and nothing after it
abbrev pub two_of : {A : Type 0} → (Rest → Result (A × Rest) Fault) → Rest → Result (A × A) Fault
two_of read r = read r >>= and_last read

-- the two graphs that the whole input holds, or its first fault
abbrev pub two_held : Tables → TypeRef → List ℕ → Result (Graph × Graph) Fault
two_held t kind input = two_of (next_held t kind) (whole input)

-- ---- what comes of it

-- how long the canonical encapsulation is, in sliced format
abbrev pub size_of : Tables → TypeRef → Graph → ℕ
size_of t kind g = length (canonical_bytes t kind sliced g)

-- the canonical encapsulation of the first has so many bytes, or, where it can be compared, that of the second
abbrev pub IsFirstLong : Tables → TypeRef → Graph → Graph → ℕ → Type 0
IsFirstLong t kind g h n = (MOST_COMPARED < n)
    × ((n ≡ size_of t kind g) ⊎ ((size_of t kind g ≤ MOST_COMPARED) × (n ≡ size_of t kind h)))

-- both can be compared
abbrev pub CanBeCompared : Tables → TypeRef → Graph → Graph → Type 0
CanBeCompared t kind g h = (size_of t kind g ≤ MOST_COMPARED) × (size_of t kind h ≤ MOST_COMPARED)

-- whether the two graphs are the same but for the names of their instances; or the first fault of the input; or
-- the length of a canonical encapsulation that is above the limit
abbrev pub Compares : Tables → TypeRef → List ℕ → Result Bool RelayFault → Type 0
Compares t kind input (Ok same) = (g h : Graph) × HoldTwo t kind input g h × CanBeCompared t kind g h
    × (IsTrue same ↔ Same g h)
Compares t kind input (Err (faults.Broken fault)) = two_held t kind input ≡ Err fault
Compares t kind input (Err (faults.TextRefused why)) = ⊥
Compares t kind input (Err faults.NeedsSliced) = ⊥
Compares t kind input (Err (faults.TooLong n)) = (g h : Graph) × HoldTwo t kind input g h × IsFirstLong t kind g h n
Compares t kind input (Err faults.Memory) = Unit {0}
