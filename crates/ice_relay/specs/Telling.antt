-- What comes of a graph that is written in compact format and relayed to sliced format, twice.
use Rattle.std.specs.Prelude.{ℕ, ◌≡◌, ◌<◌, ◌≤◌, ◌⊎◌, Bool, true, false, List, ◌++◌, length, codes, Result, Ok, Err, String, Vec, string_bytes}
use Rattle.std.specs.Fmt.{decimal}
use Rattle.std.specs.declared.alloc.Global.{Global}
use Rattle.ice_types.specs.declared.declarations.Shape.{Shape}
use Rattle.ice_types.specs.Tables.{Tables}
use Rattle.ice_encoding.specs.declared.limits.TheConstants.{LARGEST}
use Rattle.ice_encoding.specs.Graph.{Graph}
use Rattle.ice_encoding.specs.Visiting.{order}
use Rattle.ice_encoding.specs.CanonicalGraph.{Format, sliced, compact, graph_bytes}
use Rattle.ice_relay.specs.declared.drill_fault.DrillFault.{DrillFault}
use Rattle.ice_relay.specs.declared.drill_fault.DrillFault.TheVariants as faults
use Rattle.ice_relay.specs.Drawn.{drawn}
use Rattle.ice_relay.specs.Nodes.{drill_tables, one_node}

-- ---- the line

abbrev pub yes_or_no : Bool → List ℕ
yes_or_no true = codes "yes"
yes_or_no false = codes "no"

-- so many nodes, of which so many are reached, the lengths of both encapsulations, and whether what was relayed is the same
abbrev pub line : ℕ → ℕ → ℕ → ℕ → Bool → List ℕ
line nodes reached first second same =
    codes "nodes " ++ (decimal nodes ++ (codes " reached " ++ (decimal reached
    ++ (codes " compact " ++ (decimal first ++ (codes " sliced " ++ (decimal second
    ++ (codes " same " ++ (yes_or_no same ++ codes "\n")))))))))

-- how long the canonical encapsulation is, in a format
abbrev pub size_in : Tables → Shape → Format → Graph → ℕ
size_in t shape f g = length (graph_bytes t shape f g)

-- of a graph of so many nodes: how many its roots reach, and the lengths of its encapsulations; both that are relayed are the same
abbrev pub told : Tables → Shape → ℕ → Graph → List ℕ
told t shape nodes g = line nodes (length (order g)) (size_in t shape compact g) (size_in t shape sliced g) true

-- of the graph that is drawn
abbrev pub drill_line : ℕ → ℕ → List ℕ
drill_line start count = told drill_tables one_node count (drawn start count)

-- ---- one encapsulation, and all of it

-- the canonical encapsulation in the format, or its length, which is more than the limit
abbrev pub EncodesDrawn : Tables → Shape → Format → Graph → Result (Vec ℕ Global) DrillFault → Type 0
EncodesDrawn t shape f g (Ok bytes) = (bytes.items ≡ graph_bytes t shape f g) × (length bytes.items ≤ LARGEST)
EncodesDrawn t shape f g (Err (faults.TooLong n)) = (n ≡ size_in t shape f g) × (LARGEST < n)
EncodesDrawn t shape f g (Err faults.Memory) = Unit {0}

-- each encapsulation is within the limit
abbrev pub CanBeRelayed : Tables → Shape → Graph → Type 0
CanBeRelayed t shape g = (size_in t shape compact g ≤ LARGEST) × (size_in t shape sliced g ≤ LARGEST)

-- so many bytes, more than the limit, has the encapsulation in compact format, or, where that is within it, the one in sliced format
abbrev pub IsTooLong : Tables → Shape → Graph → ℕ → Type 0
IsTooLong t shape g n = (LARGEST < n)
    × ((n ≡ size_in t shape compact g) ⊎ ((size_in t shape compact g ≤ LARGEST) × (n ≡ size_in t shape sliced g)))

-- the line, or the length of the first encapsulation that is above the limit
abbrev pub Tells : Tables → Shape → ℕ → Graph → Result (String Global) DrillFault → Type 0
Tells t shape nodes g (Ok text) = (string_bytes text ≡ told t shape nodes g) × CanBeRelayed t shape g
Tells t shape nodes g (Err (faults.TooLong n)) = IsTooLong t shape g n
Tells t shape nodes g (Err faults.Memory) = Unit {0}

-- what a drill comes to: its line, or the length of its first encapsulation that is above the limit
abbrev pub Drills : ℕ → ℕ → Result (String Global) DrillFault → Type 0
Drills start count = Tells drill_tables one_node count (drawn start count)
