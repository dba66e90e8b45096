-- Bytes that are written for a graph.
use Rattle.std.specs.Prelude.{ℕ, ◌≡◌, ◌≤◌, List, [], ◌∷◌, length, None}
use Rattle.ice_types.specs.declared.kind.TypeRef.{TypeRef}
use Rattle.ice_types.specs.declared.declarations.Shape.{Shape}
use Rattle.ice_types.specs.Tables.{Tables}
use Rattle.ice_encoding.specs.Graph.{Graph}
use Rattle.ice_encoding.specs.Instances.{most_instances}
use Rattle.ice_encoding.specs.Visiting.{order}
use Rattle.ice_encoding.specs.TypedGraph.{OfType}
use Rattle.ice_encoding.specs.CanonicalGraph.{sliced, canonical_graph}

-- The content is the canonical one, in sliced format, of some graph of the type that has not too many instances. No way of reading is
-- spoken of.
pub record IsWritten (t : Tables) (shape : Shape) (content : List ℕ) : Type 0 where
  pub graph : Graph
  pub typed : OfType t shape graph
  pub few : length (order graph) ≤ most_instances
  pub are : content ≡ canonical_graph t shape sliced graph

-- one member of this name, which is always there
abbrev pub one_member : List ℕ → TypeRef → Shape
one_member name kind = record { required = record { name = name; kind = kind; tag = None } ∷ []; optional = [] }
