-- Canonical bytes come out as they were.
use Rattle.std.proofs.Common.{ℕ, ◌≤◌, ◌<◌, ◌≡◌, ◌∙◌, List, length, refl, sym, ap, subst, arith}
use Rattle.ice_types.specs.declared.declarations.Shape.{Shape}
use Rattle.ice_types.specs.Tables.{Tables}
use Rattle.ice_types.specs.Lacking.{SameShape}
use Rattle.ice_encoding.specs.declared.limits.TheConstants.{GREATEST, LARGEST}
use Rattle.ice_encoding.specs.Opening.{encapsulated_bytes}
use Rattle.ice_encoding.specs.Graph.{Graph}
use Rattle.ice_encoding.specs.Names.{names_of, instance_names}
use Rattle.ice_encoding.specs.Flags.{all_slices}
use Rattle.ice_encoding.specs.Instances.{SpellsNumbered, slices_of, most_instances}
use Rattle.ice_encoding.specs.Visiting.{order}
use Rattle.ice_encoding.specs.SameGraph.{numbered}
use Rattle.ice_encoding.specs.TypedGraph.{OfType}
use Rattle.ice_encoding.specs.CanonicalGraph.{sliced, bytes_of, graph_bytes}
use Rattle.ice_encoding.proofs.Graphs.{numbered_apart}
use Rattle.graph_arena.specs.Arena.{AreBelow}
use Rattle.graph_laws.proofs.Upto.{upto, length-upto}
use Rattle.graph_laws.proofs.Formed.{InOrder, Reached, form-in_order, form-typed}
use Rattle.graph_laws.proofs.Reached.{reached-few}
use Rattle.graph_laws.proofs.Schemas.{utf8_texts, few-enough}
use Rattle.graph_laws.proofs.Canonicity.{same_bytes}
use Rattle.graph_laws.specs.Relaying.{IsCanonicalThere, IsUnchanged}
use Rattle.graph_laws.proofs.Classed.{Both, rows_agree}
use Rattle.graph_laws.proofs.Sized as sized
use Rattle.graph_laws.proofs.SizedWritten.{canonical_is, own_sized}
use Rattle.graph_laws.proofs.Closing.{close_each, closed_length, closed_slices}
use Rattle.graph_laws.proofs.ClosedBytes.{bytes_same}
use Rattle.graph_laws.proofs.ClosedTypes.{closed_typed}
use Rattle.graph_laws.proofs.ClosedOrder.{order_closed, slices_below}
use Rattle.graph_laws.proofs.InOrder.{numbered_itself}
use Rattle.graph_laws.proofs.Numbered.{numbered-length}
use Rattle.graph_laws.proofs.There.{stands_in, same_itself, both_of}

-- a graph whose names are numbers by first visit, which bytes spell that are its own
record Closed (u : Tables) (other : Shape) (bytes : List ℕ) : Type 0 where
  graph : Graph
  reached : Reached graph
  read : SpellsNumbered u all_slices other bytes graph
  written : graph_bytes u other sliced graph ≡ bytes

module _ (t u : Tables) (both : Both t u) (shape other : Shape) (tied : SameShape t u shape other) where
  closed_own : (k : Graph) → InOrder k → OfType t shape k → length k.instances ≤ most_instances → length (encapsulated_bytes (bytes_of t shape sliced k)) ≤ LARGEST → Closed u other (encapsulated_bytes (bytes_of t shape sliced k))
  closed_own k in_order typed few small =
      let c = close_each t u both k.instances (stands_in t shape k typed) in
      let h : Graph = record { roots = k.roots; instances = c.0 } in
      let size : length h.instances ≡ length k.instances = closed_length t u k.instances h.instances c.1 in
      let few_there : length h.instances ≤ most_instances = omega (arith, few, size) in
      let h_typed : OfType u other h = closed_typed t u both shape other tied k h refl c.1 typed in_order.instances in
      let range : (n : ℕ) → n < length h.instances → AreBelow (length h.instances) (instance_names (slices_of h.instances n)) = λ n lt.
      subst (λ (m : ℕ). AreBelow m (instance_names (slices_of h.instances n))) (sym size)
      (slices_below t u k h c.1 in_order.instances (slices_of k.instances n) (slices_of h.instances n) (closed_slices t u k.instances h.instances n c.1) (in_order.instances n (omega (arith, lt, size)))) in
      let roots : AreBelow (length h.instances) (names_of h.roots) = subst (λ (m : ℕ). AreBelow m (names_of k.roots)) (sym size) in_order.roots in
      let order_k : order h ≡ upto (length k.instances) = order_closed t u k h c.1 in_order.instances refl in_order.roots in_order.size in_order.order in
      let own : order h ≡ upto (length h.instances) = order_k ∙ ap upto (sym size) in
      let same : bytes_of t shape sliced k ≡ bytes_of u other sliced h = bytes_same t u (rows_agree t u both) k h c.1 shape other tied refl in
      let itself : numbered (order h) h ≡ h = ap (λ (l : List ℕ). numbered l h) own ∙ numbered_itself h roots range in
      record {
        graph = h;
        reached = reached-few u other h h_typed (omega (arith, few-enough (length h.instances) few_there, ap length own, length-upto (length h.instances)));
        read = subst (λ (b : List ℕ). SpellsNumbered u all_slices other (encapsulated_bytes b) h) (sym same) (sized.numbered_spelled u u other (encapsulated_bytes (bytes_of u other sliced h)) h (sized.sized_numbered u u other (encapsulated_bytes (bytes_of u other sliced h)) h (own_sized u both.node other h h_typed few_there range own (subst (λ (b : List ℕ). length (encapsulated_bytes b) ≤ LARGEST) same small))));
        written = ap encapsulated_bytes (canonical_is u other h ∙ ap (bytes_of u other sliced) itself ∙ sym same);
      }

  closed_there : (g : Graph) → OfType t shape g → length (order g) ≤ most_instances → length (graph_bytes t shape sliced g) ≤ LARGEST → Closed u other (graph_bytes t shape sliced g)
  closed_there g typed few small =
      let reached = reached-few t shape g typed (few-enough (length (order g)) few) in
      let k : Graph = numbered (order g) g in
      let in_order = form-in_order g reached in
      let of_type = form-typed t GREATEST shape all_slices sliced g reached typed (λ n lt. (tt, utf8_texts t both.reader (slices_of g.instances n))) in
      let few_k : length k.instances ≤ most_instances = omega (arith, few, numbered-length (order g) g) in
      subst (Closed u other) (ap encapsulated_bytes (sym (canonical_is t shape g)))
      (closed_own k in_order of_type.typed few_k (subst (λ (b : List ℕ). length (encapsulated_bytes b) ≤ LARGEST) (canonical_is t shape g) small))

pub canonical_there : (t u : Tables) (shape other : Shape) → IsCanonicalThere t u shape other
canonical_there t u shape other g r typed few small =
    let c = closed_there t u (both_of t u shape other r) shape other r.shapes g typed few small in
    (c.graph, (c.graph, c.read, same_itself c.graph c.reached))

pub unchanged : (t u : Tables) (shape other : Shape) → IsUnchanged t u shape other
unchanged t u shape other g h r typed few small (l, l_read, l_same) =
    let bytes = graph_bytes t shape sliced g in
    let c = closed_there t u (both_of t u shape other r) shape other r.shapes g typed few small in
    let one : l ≡ c.graph = numbered_apart u all_slices other bytes l c.graph l_read c.read in
    sym (same_bytes u other sliced l h l_same) ∙ ap (graph_bytes u other sliced) one ∙ c.written
