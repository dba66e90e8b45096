-- What is written with slice sizes is sized.
use Rattle.std.proofs.Common.{ℕ, zero, suc, ◌+◌, ◌^◌, ◌≤◌, ◌<◌, ◌≡◌, ◌∙◌, Bool, true, List, [], ◌∷◌, ◌++◌, length, refl, sym, ap, subst, Option, Some, None, inl, inr, arith}
use Rattle.ice_types.specs.declared.declarations.Shape.{Shape}
use Rattle.ice_types.specs.Tables.{Tables}
use Rattle.ice_types.specs.Rules.{IsSchema}
use Rattle.ice_prims.specs.Bytes.{size_bytes}
use Rattle.ice_encoding.specs.declared.limits.TheConstants.{LARGEST}
use Rattle.ice_encoding.specs.Opening.{encapsulated_bytes}
use Rattle.ice_encoding.specs.Writing.{Piece}
use Rattle.ice_encoding.specs.Classes.{place_of}
use Rattle.ice_types.specs.CompactIds.{number_in}
use Rattle.ice_encoding.specs.Graph.{Slice, Graph}
use Rattle.ice_encoding.specs.Names.{names_of, instance_names}
use Rattle.ice_encoding.specs.References.{GoesBack}
use Rattle.ice_encoding.specs.Flags.{as_text, as_index, as_number, Flags, all_slices}
use Rattle.ice_encoding.specs.Instances.{AllFit, slices_of, most_instances}
use Rattle.ice_encoding.specs.Visiting.{visit_each, visit_at, most, order}
use Rattle.ice_encoding.specs.SameGraph.{form, numbered}
use Rattle.ice_encoding.specs.TypedGraph.{OfType}
use Rattle.ice_encoding.specs.CanonicalGraph.{Pen, table_of, is_there, written_id, has_optional, flags_byte, head_as, head_under, sliced, is_end, sized_body, written_slices, bytes_of, canonical_graph, graph_bytes}
use Rattle.graph_arena.specs.Arena.{AreBelow}
use Rattle.graph_laws.proofs.TypeIds.{Spelled}
use Rattle.graph_laws.proofs.ClassIds.{are_spelled}
use Rattle.graph_laws.proofs.Upto.{upto}
use Rattle.graph_laws.proofs.FlagBytes.{flags_back}
use Rattle.graph_laws.proofs.Formed.{Reached, form-in_order, form-typed}
use Rattle.graph_laws.proofs.Reached.{reached-few}
use Rattle.graph_laws.proofs.Schemas.{utf8_texts, few-enough}
use Rattle.graph_laws.proofs.WrittenValues.{written_limits, size_spelled}
use Rattle.graph_laws.proofs.WrittenGraphs.{IsWritten, Inline, content_written}
use Rattle.graph_laws.specs.Sized.{starts_sized, sized_instances, SpellsSizedGraph, SpellsSizedNumbered, SpellsSized}
use Rattle.graph_laws.proofs.Numbered.{numbered-length, numbered-same}

-- ---- an instance begins with the flag of the size

head_sized : (o : Option ℕ) (optional table last : Bool) (id rest : List ℕ) (p : Pen) → starts_sized ((head_as o (λ form. flags_byte form optional table true last) id p).0 ++ rest) ≡ true
head_sized (Some i) optional table last id rest p = ap (λ (f : Flags). f.has_size) (flags_back as_index optional table true last)
head_sized None optional table last id rest p = ap (λ (f : Flags). f.has_size) (flags_back as_text optional table true last)

under_sized : (number : Option ℕ) (optional table last : Bool) (id rest : List ℕ) (p : Pen) → starts_sized ((head_under number (λ form. flags_byte form optional table true last) id p).0 ++ rest) ≡ true
under_sized (Some n) optional table last id rest p = ap (λ (f : Flags). f.has_size) (flags_back as_number optional table true last)
under_sized None optional table last id rest p = head_sized (place_of p.ids id) optional table last id rest p

slices_sized : (t : Tables) (refer : Option ℕ → Piece Pen) (ss : List Slice) (p : Pen) → (ss ≡ [] → ⊥) → starts_sized (written_slices t refer ss p).0 ≡ true
slices_sized t refer [] p some = absurd (some refl)
slices_sized t refer (s ∷ ss) p some =
    let id = written_id t s in
    let head = head_under (number_in id) (λ form. flags_byte form (has_optional s) (is_there (table_of s)) true (is_end t refer ss)) id p in
    let body = sized_body t refer s head.1 in
    under_sized (number_in id) (has_optional s) (is_there (table_of s)) (is_end t refer ss) id (body.0 ++ (written_slices t refer ss body.1).0) p

written_sized : (t : Tables) (bytes : List ℕ) (ss : List Slice) → IsWritten t sliced bytes ss → starts_sized bytes ≡ true
written_sized t bytes ss w = ap starts_sized w.is ∙ slices_sized t w.refer ss w.pen w.some

module _ (t : Tables) (room : ℕ) where
  null_sized : (more : ℕ) (declared : Option ℕ) (s : Spelled) → (sized_instances t room more).Spells declared (size_bytes 0) None s s
  null_sized zero declared s = (size_spelled 0 (omega arith), refl)
  null_sized (suc more) declared s = (size_spelled 0 (omega arith), refl)

  again_sized : (more : ℕ) (declared : Option ℕ) (bytes : List ℕ) (n : ℕ) (from to : Spelled) → GoesBack room declared bytes n from to → (sized_instances t room more).Spells declared bytes (Some n) from to
  again_sized zero declared bytes n from to h = inr h
  again_sized (suc more) declared bytes n from to h = inr h

  inline_sized : Inline t all_slices sliced room (sized_instances t room)
  inline_sized = record {
    null = null_sized;
    again = again_sized;
    new = λ more declared bytes n from to h. inl (h.0, h.1, h.2, h.3, h.4, h.5, h.6, h.7, (written_sized t h.2 h.0 h.8.0, h.8.1), h.9);
  }

-- ---- a whole encapsulation

few_for_size : (n : ℕ) → n ≤ most_instances → n + 2 < 2 ^ 31
unfolding most_instances
few_for_size n le = omega (arith, le)

-- what is written is the bytes of the form
pub canonical_is : (t : Tables) (shape : Shape) (g : Graph) → canonical_graph t shape sliced g ≡ bytes_of t shape sliced (numbered (order g) g)
unfolding canonical_graph form
canonical_is t shape g = refl

module _ (t : Tables) (rules : IsSchema t) (shape : Shape) where
  order_is : (h : Graph) (limit : ℕ) → order h ≡ upto limit → visit_each (visit_at most h) (names_of h.roots) [] ≡ upto limit
  unfolding order
  order_is h limit e = e

  -- of a graph whose names are numbers by first visit
  pub own_sized : (h : Graph) → OfType t shape h → length h.instances ≤ most_instances → ((n : ℕ) → n < length h.instances → AreBelow (length h.instances) (instance_names (slices_of h.instances n)))
      → order h ≡ upto (length h.instances) → length (encapsulated_bytes (bytes_of t shape sliced h)) ≤ LARGEST → SpellsSizedNumbered t shape (encapsulated_bytes (bytes_of t shape sliced h)) h
  unfolding SpellsSizedGraph
  own_sized h typed few range own small =
      let c = content_written t (are_spelled t rules) all_slices sliced written_limits h most_instances few (few_for_size (length h.instances) few) typed.instances (λ n lt. (tt, utf8_texts t rules (slices_of h.instances n))) range
      (sized_instances t most_instances) (inline_sized t most_instances) most_instances shape typed.roots (omega (arith, few-enough (length h.instances) few)) few (order_is h (length h.instances) own) (omega (arith, small)) in
      (bytes_of t shape sliced h, refl, small, (c.0, c.1, c.2, subst (λ (is : List (List Slice)). AllFit t is c.0.met) (sym c.2) c.3))

  -- of any graph of the type, which the bytes spell by its form
  pub form_sized : (g : Graph) → Reached g → OfType t shape g → length (order g) ≤ most_instances → length (graph_bytes t shape sliced g) ≤ LARGEST → SpellsSizedNumbered t shape (graph_bytes t shape sliced g) (numbered (order g) g)
  form_sized g reached typed few small =
      let k : Graph = numbered (order g) g in
      let in_order = form-in_order g reached in
      let of_type = form-typed t written_limits.most shape all_slices sliced g reached typed (λ n lt. (tt, utf8_texts t rules (slices_of g.instances n))) in
      let few_k : length k.instances ≤ most_instances = omega (arith, few, numbered-length (order g) g) in
      subst (λ (b : List ℕ). SpellsSizedNumbered t shape (encapsulated_bytes b) k) (sym (canonical_is t shape g))
      (own_sized k of_type.typed few_k in_order.instances in_order.order (subst (λ (b : List ℕ). length (encapsulated_bytes b) ≤ LARGEST) (canonical_is t shape g) small))

pub graph_sized : (t : Tables) (shape : Shape) (g : Graph) → IsSchema t → OfType t shape g → length (order g) ≤ most_instances → length (graph_bytes t shape sliced g) ≤ LARGEST → SpellsSized t shape (graph_bytes t shape sliced g) g
graph_sized t shape g rules typed few small =
    let reached = reached-few t shape g typed (few-enough (length (order g)) few) in
    (numbered (order g) g, form_sized t rules shape g reached typed few small, numbered-same (order g) g reached.is.holds)
