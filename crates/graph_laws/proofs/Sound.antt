-- What is read is of its type, and within the limit of instances.
use Rattle.std.proofs.Common.{arith, ℕ, pos, ◌+◌, ◌≤◌, List, [], ◌∷◌, length, refl, subst}
use Rattle.std.specs.Int.{w32}
use Rattle.ice_types.specs.declared.declarations.Shape.{Shape}
use Rattle.ice_types.specs.Tables.{Tables}
use Rattle.ice_types.specs.Rules.{IsSchema}
use Rattle.ice_prims.specs.Rest.{IsBytes}
use Rattle.ice_prims.specs.Bytes.{signed_bytes}
use Rattle.ice_encoding.specs.declared.limits.TheConstants.{GREATEST, LARGEST, SMALLEST}
use Rattle.ice_encoding.specs.Graph.{Slice, Graph}
use Rattle.ice_encoding.specs.Flags.{Reach}
use Rattle.ice_encoding.specs.Instances.{most_instances, AllFit, SpellsGraph, SpellsNumbered}
use Rattle.ice_encoding.specs.TypedGraph.{OfType, OfReadType}
use Rattle.graph_laws.proofs.Carried.{rest_fits}
use Rattle.graph_laws.proofs.Texts.{content_texts}
use Rattle.graph_laws.proofs.TypedGraphs.{graph_typed}
use Rattle.graph_laws.proofs.Wider.{graph_wider}

module _ (t : Tables) (reach : Reach) (shape : Shape) (rules : IsSchema t) where
  content_of : (bytes : List ℕ) (g : Graph) → IsBytes bytes → SpellsGraph t reach shape bytes g → OfReadType t shape g × (length g.instances ≤ most_instances)
  unfolding SpellsGraph
  content_of bytes g fits (end, h, same, fit) =
      let fit_g : AllFit t g.instances end.met = subst (λ (is : List (List Slice)). AllFit t is end.met) same fit in
      let utf8 = content_texts t reach most_instances most_instances shape bytes g.roots end fits h in
      let r = graph_typed t rules reach g.instances most_instances most_instances shape bytes g.roots end fits h same fit_g utf8 in
      (record { roots = r.0; instances = r.1 }, r.2)

  -- and each proxy in it can be read again
  pub numbered_read : (bytes : List ℕ) (g : Graph) → IsBytes bytes → SpellsNumbered t reach shape bytes g → OfReadType t shape g × (length g.instances ≤ most_instances)
  numbered_read bytes g fits (content, is, short, h) =
      let inside = rest_fits bytes (signed_bytes w32 (pos (SMALLEST + length content))) (1 ∷ 1 ∷ content) is fits in
      content_of content g (rest_fits (1 ∷ 1 ∷ content) (1 ∷ 1 ∷ []) content refl inside) h

  pub numbered_typed : (bytes : List ℕ) (g : Graph) → IsBytes bytes → SpellsNumbered t reach shape bytes g → OfType t shape g × (length g.instances ≤ most_instances)
  numbered_typed bytes g fits h = let r = numbered_read bytes g fits h in (graph_wider t LARGEST GREATEST (omega arith) shape g r.0, r.1)
