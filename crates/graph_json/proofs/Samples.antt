-- Canonical texts of graphs, written out.
use Rattle.std.proofs.Common.{◌≡◌, ℕ, Some, None, List, [], ◌∷◌, false, refl, pos}
use Rattle.std.specs.Prelude.{codes}
use Rattle.std.specs.Fmt.{digits}
use Rattle.serde_json.specs.Written.{compact_text}
use Rattle.serde_json.proofs.OnLiterals.{serde_json_on_literals}
use Rattle.hex.proofs.OnLiterals.{hex_on_literals}
use Rattle.ice_types.specs.declared.kind.TypeRef.{TypeRef}
use Rattle.ice_types.specs.declared.kind.TypeRef.TheVariants as kinds
use Rattle.ice_types.specs.declared.declarations.Member.{Member}
use Rattle.ice_types.specs.declared.declarations.Shape.{Shape}
use Rattle.ice_types.specs.Tables.{Tables, no_types}
use Rattle.ice_encoding.specs.Tree.{int, reference, Trees, none, tree}
use Rattle.ice_encoding.specs.OptionalMembers.{Members}
use Rattle.ice_encoding.specs.Graph.{Slice, known, unknown, Graph}
use Rattle.ice_encoding.specs.Visiting.{most, order}
use Rattle.ice_encoding.specs.SameGraph.{form}
use Rattle.graph_json.specs.CanonicalValues.{notation}
use Rattle.graph_json.specs.Canonical.{canonical_noted}

abbrev field : List ℕ → TypeRef → Member
field name kind = record { name = name; kind = kind; tag = None }

-- class N { int v; N next; }
abbrev nodes : Tables
nodes = record no_types { classes = record { id = codes "::M::N"; base = None; compact = None; members = field (codes "v") kinds.Int ∷ field (codes "next") (kinds.Class (Some 0)) ∷ [] } ∷ [] }

-- class B { int b; }
abbrev bases : Tables
bases = record no_types { classes = record { id = codes "::M::B"; base = None; compact = None; members = field (codes "b") kinds.Int ∷ [] } ∷ [] }

-- one value of the first class
abbrev shape : Shape
shape = record { required = field (codes "$value") (kinds.Class (Some 0)) ∷ []; optional = [] }

abbrev values : Trees → Members
values vs = record { required = vs; optional = [] }

-- the root names this instance
abbrev rooted : ℕ → List (List Slice) → Graph
rooted n instances = record { roots = values (tree (reference (Some n)) none); instances = instances }

-- an instance whose next is itself
itself : compact_text (canonical_noted nodes shape (rooted 0 ((known 0 (values (tree (int (pos 7)) (tree (reference (Some 0)) none))) ∷ []) ∷ [])))
    ≡ codes "{\"instances\":[{\"slices\":[{\"class\":\"::M::N\",\"members\":{\"next\":{\"$\":2},\"v\":7}}]}],\"roots\":{\"$value\":{\"$\":2}}}"
unfolding serde_json_on_literals hex_on_literals digits form order most notation
itself = refl

-- Class D extends B { string d; B other; } is not known: the slice of D is kept, behind it stands that of B. The other instance
-- comes first in the list, and second by first visit.
other_first : compact_text (canonical_noted bases shape (rooted 1 ((known 0 (values (tree (int (pos 2)) none)) ∷ [])
    ∷ (unknown (codes "::M::D") (1 ∷ 120 ∷ 1 ∷ []) false (0 ∷ []) ∷ known 0 (values (tree (int (pos 1)) none)) ∷ []) ∷ [])))
    ≡ codes "{\"instances\":[{\"slices\":[{\"bytes\":\"017801\",\"kept\":\"::M::D\",\"optionals\":false,\"table\":[{\"$\":3}]},{\"class\":\"::M::B\",\"members\":{\"b\":1}}]},{\"slices\":[{\"class\":\"::M::B\",\"members\":{\"b\":2}}]}],\"roots\":{\"$value\":{\"$\":2}}}"
unfolding serde_json_on_literals hex_on_literals digits form order most notation
other_first = refl
