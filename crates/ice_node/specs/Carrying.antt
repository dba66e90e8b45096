-- What `relay` carries for a reader whose schema has classes that FILE lacks.
use Rattle.std.specs.Prelude.{ℕ, ◌≡◌, List, [], ◌∷◌, codes}
use Rattle.ice_types.specs.declared.kind.TypeRef.{TypeRef}
use Rattle.ice_types.specs.Tables.{Tables}
use Rattle.ice_encoding.specs.Graph.{Graph}
use Rattle.ice_encoding.specs.Flags.{all_slices}
use Rattle.ice_encoding.specs.SameGraph.{Spells}
use Rattle.graph_laws.specs.Relaying.{Relays}
use Rattle.graph_laws.specs.Sized.{SpellsSized}
use Rattle.ice_relay.specs.Relaying.{one_value}
use Rattle.slice_meaning.specs.Loading.{Loads}
use Rattle.node_commands.specs.Words.{Word}
use Rattle.node_commands.specs.Outside.{Files}
use Rattle.node_commands.specs.TypeWords.{IsTypeWord}

-- FILE's schema is the reader's without some classes, the word names a type of both, and the input is for the reader an
-- encapsulation of this graph.
pub record IsReader (files : Files) (file word : Word) (input : List ℕ) (t : Tables) (kind : TypeRef) (g : Graph) : Type 0 where
  pub node : Tables
  pub loads : Loads files file node
  pub other : TypeRef
  pub named : IsTypeWord node word other
  pub relays : Relays t node (one_value kind) (one_value other)
  pub spelled : Spells t all_slices (one_value kind) input g

-- The words ask to relay in sliced format: what is written is for each reader an encapsulation of the same graph, in which
-- each instance is sized.
abbrev pub Carries : List Word → Files → List ℕ → List ℕ → Type 0
Carries words files input out = (file word : Word) (t : Tables) (kind : TypeRef) (g : Graph)
    → words ≡ codes "relay" ∷ file ∷ word ∷ [] → IsReader files file word input t kind g
    → SpellsSized t (one_value kind) out g
