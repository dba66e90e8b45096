-- What an input holds, and what comes of it.
use Rattle.std.specs.Prelude.{ℕ, ◌≡◌, ◌<◌, ◌≤◌, List, [], ◌∷◌, length, codes, None, Result, Ok, Err, Vec}
use Rattle.std.specs.declared.alloc.Global.{Global}
use Rattle.ice_types.specs.declared.kind.TypeRef.{TypeRef}
use Rattle.ice_types.specs.declared.declarations.Member.{Member}
use Rattle.ice_types.specs.declared.declarations.Shape.{Shape}
use Rattle.ice_types.specs.Tables.{Tables}
use Rattle.ice_prims.specs.declared.fault.Fault.{Fault}
use Rattle.ice_prims.specs.Rest.{whole}
use Rattle.ice_encoding.specs.declared.limits.TheConstants.{LARGEST}
use Rattle.ice_encoding.specs.Graph.{Graph}
use Rattle.ice_encoding.specs.Flags.{all_slices}
use Rattle.ice_encoding.specs.Instances.{SpellsNumbered, numbered_at}
use Rattle.ice_encoding.specs.CanonicalGraph.{Format, graph_bytes, IsWritable}
use Rattle.class_slices.specs.Encoding.{NeedsSliced}
use Rattle.ice_relay.specs.declared.fault.RelayFault.{RelayFault}
use Rattle.ice_relay.specs.declared.fault.RelayFault.TheVariants as faults

-- the member that stands for a value which is no member of anything
abbrev pub root_of : TypeRef → Member
root_of kind = record { name = codes "$value"; kind = kind; tag = None }

-- one value, and nothing else that is known
abbrev pub one_value : TypeRef → Shape
one_value kind = record { required = root_of kind ∷ []; optional = [] }

-- The whole input is one encapsulation of a value of the type with the instances that it leads to: this graph.
abbrev pub Holds : Tables → TypeRef → List ℕ → Graph → Type 0
Holds t kind = SpellsNumbered t all_slices (one_value kind)

-- the graph that the whole input holds, or its first fault
abbrev pub held : Tables → TypeRef → List ℕ → Result Graph Fault
held t kind input = numbered_at t all_slices (one_value kind) (whole input)

-- the canonical encapsulation of a graph, in a format
abbrev pub canonical_bytes : Tables → TypeRef → Format → Graph → List ℕ
canonical_bytes t kind f g = graph_bytes t (one_value kind) f g

-- The canonical encapsulation of the graph that the input holds; or the input's first fault; or that an instance which
-- the graph reaches has an unknown slice, and the format is compact; or the length of the encapsulation, which is more than
-- the limit.
abbrev pub Canonicalizes : Tables → TypeRef → Format → List ℕ → Result (Vec ℕ Global) RelayFault → Type 0
Canonicalizes t kind f input (Ok bytes) = (g : Graph) × Holds t kind input g × IsWritable f g
    × (bytes.items ≡ canonical_bytes t kind f g) × (length bytes.items ≤ LARGEST)
Canonicalizes t kind f input (Err (faults.Broken fault)) = held t kind input ≡ Err fault
Canonicalizes t kind f input (Err (faults.TextRefused why)) = ⊥
Canonicalizes t kind f input (Err faults.NeedsSliced) = (g : Graph) × Holds t kind input g × NeedsSliced f g
Canonicalizes t kind f input (Err (faults.TooLong n)) = (g : Graph) × Holds t kind input g × IsWritable f g
    × (n ≡ length (canonical_bytes t kind f g)) × (LARGEST < n)
Canonicalizes t kind f input (Err faults.Memory) = Unit {0}
