-- What the node can read is an encapsulation of a graph under its schema.
use Rattle.std.proofs.Common.{ℕ, ◌<◌, List, length, refl, subst, arith}
use Rattle.ice_types.specs.declared.declarations.Shape.{Shape}
use Rattle.ice_types.specs.Tables.{Tables}
use Rattle.ice_types.specs.Rules.{IsSchema}
use Rattle.ice_types.specs.Lacking.{SameShape}
use Rattle.ice_prims.specs.Rest.{IsBytes}
use Rattle.ice_encoding.specs.Graph.{Slice, Graph}
use Rattle.ice_encoding.specs.Flags.{Reach, all_slices}
use Rattle.ice_encoding.specs.Instances.{SpellsGraph, SpellsNumbered, AllFit, slices_of, most_instances}
use Rattle.ice_encoding.specs.SameGraph.{Same, form}
use Rattle.ice_encoding.specs.TypedGraph.{RefersIn, OfType}
use Rattle.graph_laws.proofs.Sound.{numbered_typed}
use Rattle.graph_laws.proofs.Formed.{Reached, form-same-graph}
use Rattle.graph_laws.proofs.Reached.{reached-small}
use Rattle.graph_laws.proofs.Schemas.{few-enough}
use Rattle.graph_laws.proofs.Sameness.{same_both}
use Rattle.graph_laws.specs.Readable.{SpellsReadableGraph, SpellsReadableNumbered}
use Rattle.graph_laws.specs.Seeing.{EachSeen, Seen}
use Rattle.graph_laws.specs.Relaying.{Relays, IsSpelledThere}
use Rattle.graph_laws.proofs.Classed.{Both}
use Rattle.graph_laws.proofs.Standing.{Stands, instance_stands}
use Rattle.graph_laws.proofs.RelayedFitting.{each_like, all_fit_seen}
use Rattle.graph_laws.proofs.Seen.{content_seen}
use Rattle.graph_laws.proofs.Sized.{numbered_spelled}

pub stands_in : (t : Tables) (shape : Shape) (g : Graph) → OfType t shape g → (n : ℕ) → n < length g.instances → Stands t (slices_of g.instances n)
stands_in t shape g typed n lt = instance_stands t (RefersIn t g.instances) (slices_of g.instances n) (typed.instances n lt)

module _ (t u : Tables) (both : Both t u) (shape other : Shape) (tied : SameShape t u shape other) where
  graph_seen : (bytes : List ℕ) (g : Graph) → OfType t shape g → SpellsReadableGraph t u shape bytes g → (h : Graph) × SpellsGraph u all_slices other bytes h × Seen t u g h
  unfolding SpellsReadableGraph SpellsGraph
  graph_seen bytes g typed (end, h, same, fit) =
      let s = content_seen t u both g.instances most_instances most_instances shape other tied bytes g.roots end h (subst (λ (is : List (List Slice)). AllFit t is end.met) same fit) in
      let seen : EachSeen t u g.instances g.instances s.0.instances = subst (λ (is : List (List Slice)). EachSeen t u g.instances is s.0.instances) same s.2.instances in (
        record { roots = g.roots; instances = s.0.instances },
        (s.0, s.1, refl, all_fit_seen t u both g.instances s.0.instances (each_like t u g.instances s.0.instances seen) (stands_in t shape g typed) s.0.met s.2.met),
        record { roots = refl; instances = seen },
      )

  numbered_seen : (bytes : List ℕ) (g : Graph) → OfType t shape g → SpellsReadableNumbered t u shape bytes g → (h : Graph) × SpellsNumbered u all_slices other bytes h × Seen t u g h
  numbered_seen bytes g typed (content, is, small, h) =
      let s = graph_seen content g typed h in
      (s.0, (content, is, small, s.1), s.2)

  pub seen_there : (bytes : List ℕ) (g : Graph) → IsBytes bytes → SpellsReadableNumbered t u shape bytes g → (h : Graph) × SpellsNumbered u all_slices other bytes h × Seen t u g h
  seen_there bytes g fits h = numbered_seen bytes g (numbered_typed t all_slices shape both.reader bytes g fits (numbered_spelled t u shape bytes g h)).0 h

-- ---- what was read is itself

pub reached_there : (t : Tables) (reach : Reach) (shape : Shape) (bytes : List ℕ) (g : Graph) → IsSchema t → IsBytes bytes → SpellsNumbered t reach shape bytes g → Reached g
reached_there t reach shape bytes g rules fits h =
    let typed = numbered_typed t reach shape rules bytes g fits h in
    reached-small t shape g typed.0 (omega (arith, few-enough (length g.instances) typed.1))

pub same_itself : (g : Graph) → Reached g → Same g g
same_itself g reached = let same = form-same-graph g reached in same_both (form g) g g same same

pub both_of : (t u : Tables) (shape other : Shape) → Relays t u shape other → Both t u
both_of t u shape other r = record { reader = r.reader; node = r.node; lacks = r.lacks }

pub spelled_there : (t u : Tables) (shape other : Shape) → IsSpelledThere t u shape other
spelled_there t u shape other bytes g r fits (k, h, same) =
    let s = seen_there t u (both_of t u shape other r) shape other r.shapes bytes k fits h in
    (s.0, (s.0, s.1, same_itself s.0 (reached_there u all_slices other bytes s.0 r.node fits s.1)))
