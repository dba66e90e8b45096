-- What a store keeps at first: the number 0, and the value of zeros.
use Rattle.std.specs.Prelude.{ℕ, pos, ◌≡◌, List, [], Option, None, Some, codes}
use Rattle.ice_types.specs.declared.kind.TypeRef.{TypeRef}
use Rattle.ice_types.specs.declared.declarations.OpDecl.{OpDecl}
use Rattle.ice_types.specs.declared.schema.TheConstants.{MOST_DEPTH}
use Rattle.ice_types.specs.Tables.{Tables}
use Rattle.ice_encoding.specs.Tree.{none, tree}
use Rattle.ice_encoding.specs.Graph.{Graph}
use Rattle.ice_encoding.specs.OptionalMembers.{with_optional}
use Rattle.value_checks.specs.Zeros.{zero_of}
use Rattle.object_adapter.specs.declared.kept.Kept.{Kept}
use Rattle.object_adapter.specs.Deeds.{IsPut, IsSomePut}
use Rattle.object_adapter.specs.Interfaces.{named}
use Rattle.object_adapter.specs.Writing.{written}

-- the value of zeros of this type, as the only argument
abbrev pub zeros : Tables → TypeRef → Graph
zeros t kind = record { roots = with_optional (tree (zero_of t MOST_DEPTH kind) none) []; instances = [] }

-- of the type that may be put, where the interface has this `put`, and none where nothing is put
abbrev pub HoldsZeros : Tables → Option OpDecl → Option (List ℕ) → Type 0
HoldsZeros t None value = value ≡ None
HoldsZeros t (Some op) value = ((kind : TypeRef) → IsPut op kind → value ≡ written t op.arguments (zeros t kind)) × ((IsSomePut op → ⊥) → value ≡ None)

-- what a store of the interface keeps at first
abbrev pub IsFirst : Tables → ℕ → Kept → Type 0
IsFirst t interface kept = (kept.number ≡ pos 0) × HoldsZeros t (named t interface (codes "put")) kept.value
