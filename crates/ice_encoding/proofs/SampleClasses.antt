-- Classes, type ids and instances that samples are made of.
use Rattle.std.proofs.Common.{ℕ, List, [], ◌∷◌, Some, None, codes}
use Rattle.std.specs.Prelude.{pos}
use Rattle.ice_types.specs.declared.kind.TypeRef.{TypeRef}
use Rattle.ice_types.specs.declared.kind.TypeRef.TheVariants as kinds
use Rattle.ice_types.specs.declared.declarations.Member.{Member}
use Rattle.ice_types.specs.declared.declarations.ClassDecl.{ClassDecl}
use Rattle.ice_encoding.specs.Tree.{int, reference, Trees, none, tree}
use Rattle.ice_encoding.specs.OptionalMembers.{Members, with_optional}
use Rattle.ice_encoding.specs.Graph.{Slice, known}

abbrev pub always : TypeRef → Member
always kind = record { name = codes "r"; kind = kind; tag = None }

abbrev pub tagged : ℕ → TypeRef → Member
tagged number kind = record { name = codes "m"; kind = kind; tag = Some number }

-- class N { int v; N next; } class P { int p; } class O { optional(1) int a; } class B { int b; } class D extends B { string d; B other; } class T { N a; N b; }
abbrev pub classes : List ClassDecl
classes = record { id = codes "::M::N"; base = None; compact = None; members = always kinds.Int ∷ always (kinds.Class (Some 0)) ∷ [] }
    ∷ record { id = codes "::M::P"; base = None; compact = None; members = always kinds.Int ∷ [] }
    ∷ record { id = codes "::M::O"; base = None; compact = None; members = tagged 1 kinds.Int ∷ [] }
    ∷ record { id = codes "::M::B"; base = None; compact = None; members = always kinds.Int ∷ [] }
    ∷ record { id = codes "::M::D"; base = Some 3; compact = None; members = always kinds.Text ∷ always (kinds.Class (Some 3)) ∷ [] }
    ∷ record { id = codes "::M::T"; base = None; compact = None; members = always (kinds.Class (Some 0)) ∷ always (kinds.Class (Some 0)) ∷ [] } ∷ []

abbrev pub node_id : List ℕ
node_id = 6 ∷ codes "::M::N"

abbrev pub point_id : List ℕ
point_id = 6 ∷ codes "::M::P"

abbrev pub values : Trees → Members
values vs = with_optional vs []

abbrev pub to : ℕ → Trees
to n = tree (reference (Some n)) none

abbrev pub node : ℕ → ℕ → List Slice
node v next = known 0 (values (tree (int (pos v)) (to next))) ∷ []
