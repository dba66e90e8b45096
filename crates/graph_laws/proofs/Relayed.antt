-- What the node writes spells the graph of the reader.
use Rattle.std.proofs.Common.{ℕ, ◌≤◌, ◌<◌, ◌≡◌, ◌∙◌, List, length, drop, sym, ap, subst, arith}
use Rattle.ice_types.specs.declared.declarations.Shape.{Shape}
use Rattle.ice_types.specs.Tables.{Tables}
use Rattle.ice_types.specs.Lacking.{SameShape}
use Rattle.ice_prims.specs.Rest.{IsBytes}
use Rattle.ice_encoding.specs.declared.limits.TheConstants.{LARGEST}
use Rattle.ice_encoding.specs.OptionalMembers.{Members, SpellsContent}
use Rattle.ice_encoding.specs.Graph.{Slice, Graph}
use Rattle.ice_encoding.specs.References.{opening}
use Rattle.ice_encoding.specs.Flags.{all_slices}
use Rattle.ice_encoding.specs.Instances.{SpellsGraph, SpellsNumbered, AllFit, slices_of, most_instances}
use Rattle.ice_encoding.specs.Visiting.{order}
use Rattle.ice_encoding.specs.SameGraph.{Same, Holds, numbered}
use Rattle.ice_encoding.specs.CanonicalGraph.{sliced, graph_bytes}
use Rattle.ice_encoding.proofs.Graphs.{numbered_apart}
use Rattle.graph_laws.proofs.Sound.{numbered_typed}
use Rattle.graph_arena.specs.Arena.{AreBelow}
use Rattle.graph_arena.proofs.Closed.{few}
use Rattle.graph_laws.proofs.Canonicity.{same_bytes}
use Rattle.graph_laws.proofs.Sameness.{same_back, same_both}
use Rattle.graph_laws.specs.Sized.{sized_instances, SpellsSizedGraph, SpellsSizedNumbered}
use Rattle.graph_laws.specs.Readable.{SpellsReadableNumbered}
use Rattle.graph_laws.specs.Seeing.{Seen}
use Rattle.graph_laws.specs.Relaying.{IsReadByBoth, IsSpelledBack}
use Rattle.graph_laws.proofs.Classed.{Both}
use Rattle.graph_laws.proofs.RelayedRelated.{each_length}
use Rattle.graph_laws.proofs.Standing.{Stands}
use Rattle.graph_laws.proofs.Sized.{numbered_spelled}
use Rattle.graph_laws.proofs.SizedWritten.{form_sized}
use Rattle.graph_laws.proofs.Again.{content_back}
use Rattle.graph_laws.proofs.Numbered.{numbered-same, numbered-stands, seen-holds, seen-numbered}
use Rattle.graph_laws.proofs.LockedSlices.{graph_locked}
use Rattle.graph_laws.proofs.There.{stands_in, seen_there, reached_there, both_of}

module _ (t u : Tables) (both : Both t u) (shape other : Shape) (tied : SameShape t u shape other) where
  -- what spells the one graph for the node spells the other for the reader
  graph_back : (content : List ℕ) (g h : Graph) → Seen t u g h → ((n : ℕ) → n < length g.instances → Stands t (slices_of g.instances n)) → SpellsSizedGraph u other content h → SpellsSizedGraph t shape content g
  unfolding SpellsSizedGraph
  graph_back content g h seen stands (end, spelled, same, fit) =
      let b = content_back t u both g.instances h.instances seen.instances stands most_instances most_instances shape other tied content h.roots end spelled same (subst (λ (is : List (List Slice)). AllFit u is end.met) same fit) in (
        b.0,
        subst (λ (c : Members). SpellsContent (sized_instances t most_instances most_instances) t shape content c opening b.0) seen.roots b.1,
        b.2,
        subst (λ (is : List (List Slice)). AllFit t is b.0.met) (sym b.2) b.3,
      )

  module _ (bytes : List ℕ) (fits : IsBytes bytes) (k h : Graph) (can : SpellsReadableNumbered t u shape bytes k) (read : SpellsNumbered u all_slices other bytes h) (seen : Seen t u k h) where
    abbrev ns : List ℕ
    ns = order h

    pub written_back : length (graph_bytes u other sliced h) ≤ LARGEST → (x : Graph) × SpellsSizedNumbered t shape (graph_bytes u other sliced h) x × Same x k
    written_back small =
        let typed = numbered_typed u all_slices other both.node bytes h fits read in
        let reached = reached_there u all_slices other bytes h both.node fits read in
        let holds : Holds ns h = reached.is.holds in
        let few_reached : length ns ≤ most_instances = omega (arith, few (length h.instances) ns holds.once reached.is.below, typed.1) in
        let spelled : SpellsSizedNumbered u other (graph_bytes u other sliced h) (numbered ns h) = form_sized u both.node other h reached typed.0 few_reached small in
        let own = numbered_typed t all_slices shape both.reader bytes k fits (numbered_spelled t u shape bytes k can) in
        let below : AreBelow (length k.instances) ns = subst (λ (n : ℕ). AreBelow n ns) (each_length t u k.instances k.instances h.instances seen.instances) reached.is.below in
        let stands = numbered-stands t ns k below (stands_in t shape k own.0) in (
          numbered ns k,
          (spelled.0, spelled.1, spelled.2, graph_back spelled.0 (numbered ns k) (numbered ns h) (seen-numbered t u k h seen ns holds) stands spelled.3),
          numbered-same ns k (seen-holds t u k h seen ns holds),
        )

-- what spells numbered graphs for both, the node can read
numbered_read : (t u : Tables) (both : Both t u) (shape other : Shape) → SameShape t u shape other → (bytes : List ℕ) (k l : Graph) → SpellsNumbered t all_slices shape bytes k → SpellsNumbered u all_slices other bytes l → SpellsReadableNumbered t u shape bytes k
numbered_read t u both shape other tied bytes k l (content, is, small, h) (content', is', small', g) =
    let same : content' ≡ content = ap (drop 6) (sym is' ∙ is) in
    (content, is, small, graph_locked t u both shape other tied content k l h (subst (λ (c : List ℕ). SpellsGraph u all_slices other c l) same g))

pub read_by_both : (t u : Tables) (shape other : Shape) → IsReadByBoth t u shape other
read_by_both t u shape other bytes g h r (k, k_read, same) (l, l_read, l_same) = (k, numbered_read t u (both_of t u shape other r) shape other r.shapes bytes k l k_read l_read, same)

pub spelled_back : (t u : Tables) (shape other : Shape) → IsSpelledBack t u shape other
spelled_back t u shape other bytes g h r fits (k, k_read, same) (l, l_read, l_same) small =
    let both = both_of t u shape other r in
    let can = numbered_read t u both shape other r.shapes bytes k l k_read l_read in
    let s = seen_there t u both shape other r.shapes bytes k fits can in
    let one : s.0 ≡ l = numbered_apart u all_slices other bytes s.0 l s.1 l_read in
    let equal : graph_bytes u other sliced s.0 ≡ graph_bytes u other sliced h = ap (graph_bytes u other sliced) one ∙ same_bytes u other sliced l h l_same in
    let x = written_back t u both shape other r.shapes bytes fits k s.0 can s.1 s.2 (subst (λ (b : List ℕ). length b ≤ LARGEST) (sym equal) small) in
    (x.0, subst (λ (b : List ℕ). SpellsSizedNumbered t shape b x.0) equal x.1, same_both k x.0 g (same_back x.0 k x.2) same)
