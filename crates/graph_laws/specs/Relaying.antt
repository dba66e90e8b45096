-- What a node keeps that relays by a schema without some classes of the reader's.
use Rattle.std.specs.Prelude.{ℕ, ◌≡◌, ◌≤◌, List, length}
use Rattle.ice_types.specs.declared.declarations.Shape.{Shape}
use Rattle.ice_types.specs.Tables.{Tables}
use Rattle.ice_types.specs.Rules.{IsSchema}
use Rattle.ice_types.specs.Lacking.{SameShape, Lacks}
use Rattle.ice_prims.specs.Rest.{IsBytes}
use Rattle.ice_encoding.specs.declared.limits.TheConstants.{LARGEST}
use Rattle.ice_encoding.specs.Graph.{Graph}
use Rattle.ice_encoding.specs.Flags.{all_slices}
use Rattle.ice_encoding.specs.Instances.{most_instances}
use Rattle.ice_encoding.specs.Visiting.{order}
use Rattle.ice_encoding.specs.SameGraph.{Spells}
use Rattle.ice_encoding.specs.TypedGraph.{OfType}
use Rattle.ice_encoding.specs.CanonicalGraph.{sliced, graph_bytes}
use Rattle.graph_laws.specs.Sized.{SpellsSized}
use Rattle.graph_laws.specs.Readable.{SpellsReadable}

-- The reader's schema, and the node's, which lacks some of its classes; and the shape of the members under each of them.
pub record Relays (t u : Tables) (shape other : Shape) : Type 0 where
  pub reader : IsSchema t
  pub node : IsSchema u
  pub lacks : Lacks t u
  pub shapes : SameShape t u shape other

module _ (t u : Tables) (shape other : Shape) where
  -- what spells graphs for both can be read by the node, instance by instance
  abbrev pub IsReadByBoth : Type 0
  IsReadByBoth = (bytes : List ℕ) (g h : Graph) → Relays t u shape other → Spells t all_slices shape bytes g
      → Spells u all_slices other bytes h → SpellsReadable t u shape bytes g

  -- what spells a graph for the reader, and can be read by the node, spells a graph for the node
  abbrev pub IsSpelledThere : Type 0
  IsSpelledThere = (bytes : List ℕ) (g : Graph) → Relays t u shape other → IsBytes bytes → SpellsReadable t u shape bytes g
      → (h : Graph) × Spells u all_slices other bytes h

  -- what the node writes of what it reads spells the graph that the reader would have read, and is sized
  abbrev pub IsSpelledBack : Type 0
  IsSpelledBack = (bytes : List ℕ) (g h : Graph) → Relays t u shape other → IsBytes bytes → Spells t all_slices shape bytes g
      → Spells u all_slices other bytes h → length (graph_bytes u other sliced h) ≤ LARGEST
      → SpellsSized t shape (graph_bytes u other sliced h) g

  -- the bytes that the reader's side would write for a graph spell one for the node
  abbrev pub IsCanonicalThere : Type 0
  IsCanonicalThere = (g : Graph) → Relays t u shape other → OfType t shape g → length (order g) ≤ most_instances
      → length (graph_bytes t shape sliced g) ≤ LARGEST → (h : Graph) × Spells u all_slices other (graph_bytes t shape sliced g) h

  -- and the node writes the same bytes
  abbrev pub IsUnchanged : Type 0
  IsUnchanged = (g h : Graph) → Relays t u shape other → OfType t shape g → length (order g) ≤ most_instances
      → length (graph_bytes t shape sliced g) ≤ LARGEST → Spells u all_slices other (graph_bytes t shape sliced g) h
      → graph_bytes u other sliced h ≡ graph_bytes t shape sliced g
