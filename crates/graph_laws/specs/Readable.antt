-- Encapsulations of which a node that lacks classes can read each instance. (Ice manual, "Data Encoding for Class and Exception Types".)
use Rattle.std.specs.Prelude.{ℕ, zero, suc, ◌≡◌, ◌⊎◌, true, List, [], ◌∷◌}
use Rattle.ice_types.specs.declared.declarations.Shape.{Shape}
use Rattle.ice_types.specs.Tables.{Tables}
use Rattle.ice_encoding.specs.Port.{Port, nowhere}
use Rattle.ice_encoding.specs.Encapsulation.{Encapsulated}
use Rattle.ice_encoding.specs.OptionalMembers.{SpellsContent}
use Rattle.ice_encoding.specs.Graph.{Slice, known, unknown, Graph}
use Rattle.ice_encoding.specs.Flags.{all_slices}
use Rattle.ice_encoding.specs.References.{State, opening, inline}
use Rattle.ice_encoding.specs.Slices.{SpellsInstance, instance_at}
use Rattle.ice_encoding.specs.Instances.{most_instances, AllFit}
use Rattle.ice_encoding.specs.SameGraph.{Same}
use Rattle.graph_laws.specs.Sized.{starts_sized}
use Rattle.graph_laws.specs.Seeing.{SameClassId}

module _ (t u : Tables) where
  -- the class of the first slice is one that the node has, too
  abbrev pub IsOfBoth : List Slice → Type 0
  IsOfBoth [] = ⊥
  IsOfBoth (known a content ∷ ss) = (b : ℕ) × SameClassId t u a b
  IsOfBoth (unknown id bytes optionals table ∷ ss) = ⊥

  -- Each slice has a size, or the node knows its class. It is so of all slices if it is so of the first.
  abbrev pub CanBeRead : List ℕ → List Slice → Type 0
  CanBeRead bytes slices = (starts_sized bytes ≡ true) ⊎ IsOfBoth slices

  -- so many instances may still begin, one inside the other, which the node can read
  abbrev pub readable_instances : ℕ → ℕ → Port (State ℕ) (State (Unit {0}))
  readable_instances limit zero = inline limit (λ s r. nowhere r) (λ bytes slices from to. ⊥)
  readable_instances limit (suc more) = inline limit (instance_at (readable_instances limit more).read t all_slices)
      (λ bytes slices from to. CanBeRead bytes slices × SpellsInstance (readable_instances limit more) t all_slices bytes slices from to)

  -- the members of a content and the instances that begin in it, which the node can read
  unfoldable pub SpellsReadableGraph : Shape → List ℕ → Graph → Type 0
  SpellsReadableGraph shape bytes g = (end : State (Unit {0}))
      × SpellsContent (readable_instances most_instances most_instances) t shape bytes g.roots opening end
      × (end.instances ≡ g.instances) × AllFit t end.instances end.met

  -- an encapsulation that holds the graph alone
  abbrev pub SpellsReadableNumbered : Shape → List ℕ → Graph → Type 0
  SpellsReadableNumbered shape = Encapsulated (SpellsReadableGraph shape)

  -- the bytes are an encapsulation of a graph that is the same, and the node can read each instance in them
  abbrev pub SpellsReadable : Shape → List ℕ → Graph → Type 0
  SpellsReadable shape bytes g = (k : Graph) × SpellsReadableNumbered shape bytes k × Same k g
