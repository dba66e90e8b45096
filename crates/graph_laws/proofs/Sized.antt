-- An encapsulation in which each instance is sized can be read by a node that lacks classes, and is an encapsulation.
use Rattle.std.proofs.Common.{ℕ, zero, suc, ◌≡◌, true, List, Option, inl}
use Rattle.ice_types.specs.declared.declarations.Shape.{Shape}
use Rattle.ice_types.specs.Tables.{Tables}
use Rattle.ice_encoding.specs.Graph.{Graph}
use Rattle.ice_encoding.specs.References.{opening}
use Rattle.ice_encoding.specs.Flags.{all_slices, first}
use Rattle.ice_encoding.specs.Slices.{SpellsInstance}
use Rattle.ice_encoding.specs.Instances.{instances, most_instances, SpellsGraph, SpellsNumbered}
use Rattle.ice_encoding.specs.SameGraph.{Spells}
use Rattle.graph_laws.proofs.Weaker.{Goes, slices_go, inline_goes, content_goes}
use Rattle.graph_laws.specs.Sized.{starts_sized, sized_instances, SpellsSizedGraph, SpellsSizedNumbered, SpellsSized}
use Rattle.graph_laws.specs.Readable.{CanBeRead, readable_instances, SpellsReadableGraph, SpellsReadableNumbered, SpellsReadable}

-- ---- sized instances can be read

module _ (t u : Tables) where
  sized_go : (limit more : ℕ) (declared : Option ℕ) → Goes ((sized_instances t limit more).Spells declared) ((readable_instances t u limit more).Spells declared)
  sized_go limit zero declared = inline_goes t all_slices limit (λ bytes slices from to. ⊥) (λ bytes slices from to. ⊥) (λ bytes slices from to h. h) declared
  sized_go limit (suc more) declared =
      inline_goes t all_slices limit (λ bytes slices from to. (starts_sized bytes ≡ true) × SpellsInstance (sized_instances t limit more) t all_slices bytes slices from to)
      (λ bytes slices from to. CanBeRead t u bytes slices × SpellsInstance (readable_instances t u limit more) t all_slices bytes slices from to)
      (λ bytes ss from to h. (inl h.0, (h.1.0, slices_go t all_slices (sized_instances t limit more) (readable_instances t u limit more) (sized_go limit more) h.1.0 first bytes ss from to h.1.1))) declared

  sized_graph : (shape : Shape) (bytes : List ℕ) (g : Graph) → SpellsSizedGraph t shape bytes g → SpellsReadableGraph t u shape bytes g
  unfolding SpellsSizedGraph SpellsReadableGraph
  sized_graph shape bytes g (end, h, same, fit) =
      (end, content_goes (sized_instances t most_instances most_instances) (readable_instances t u most_instances most_instances) t (sized_go most_instances most_instances) shape bytes g.roots opening end h, same, fit)

  pub sized_numbered : (shape : Shape) (bytes : List ℕ) (g : Graph) → SpellsSizedNumbered t shape bytes g → SpellsReadableNumbered t u shape bytes g
  sized_numbered shape bytes g (content, is, small, h) = (content, is, small, sized_graph shape content g h)

  pub sized_readable : (shape : Shape) (bytes : List ℕ) (g : Graph) → SpellsSized t shape bytes g → SpellsReadable t u shape bytes g
  sized_readable shape bytes g (k, h, same) = (k, sized_numbered shape bytes k h, same)

  -- ---- what can be read is an encapsulation

  readable_go : (limit more : ℕ) (declared : Option ℕ) → Goes ((readable_instances t u limit more).Spells declared) ((instances t all_slices limit more).Spells declared)
  readable_go limit zero declared = inline_goes t all_slices limit (λ bytes slices from to. ⊥) (λ bytes slices from to. ⊥) (λ bytes slices from to h. h) declared
  readable_go limit (suc more) declared =
      inline_goes t all_slices limit (λ bytes slices from to. CanBeRead t u bytes slices × SpellsInstance (readable_instances t u limit more) t all_slices bytes slices from to) (SpellsInstance (instances t all_slices limit more) t all_slices)
      (λ bytes ss from to h. (h.1.0, slices_go t all_slices (readable_instances t u limit more) (instances t all_slices limit more) (readable_go limit more) h.1.0 first bytes ss from to h.1.1)) declared

  graph_spelled : (shape : Shape) (bytes : List ℕ) (g : Graph) → SpellsReadableGraph t u shape bytes g → SpellsGraph t all_slices shape bytes g
  unfolding SpellsReadableGraph SpellsGraph
  graph_spelled shape bytes g (end, h, same, fit) =
      (end, content_goes (readable_instances t u most_instances most_instances) (instances t all_slices most_instances most_instances) t (readable_go most_instances most_instances) shape bytes g.roots opening end h, same, fit)

  pub numbered_spelled : (shape : Shape) (bytes : List ℕ) (g : Graph) → SpellsReadableNumbered t u shape bytes g → SpellsNumbered t all_slices shape bytes g
  numbered_spelled shape bytes g (content, is, small, h) = (content, is, small, graph_spelled shape content g h)

  pub readable_spelled : (shape : Shape) (bytes : List ℕ) (g : Graph) → SpellsReadable t u shape bytes g → Spells t all_slices shape bytes g
  readable_spelled shape bytes g (k, h, same) = (k, numbered_spelled shape bytes k h, same)
