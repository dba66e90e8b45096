-- A content that is a reference to an instance, as it stands, is written for the graph of the instances that begin in it.
use Rattle.std.proofs.Common.{◌≡◌, ℕ, suc, ◌+◌, ◌<◌, ◌≤◌, true, List, [], ◌∷◌, ◌++◌, length, map, Option, None, Some, refl, sym, ap, ◌∙◌, subst, arith}
use Rattle.std.specs.Prelude.{slice_get}
use Rattle.std.proofs.lemmas.List.{append-nil}
use Rattle.ice_types.specs.declared.kind.TypeRef.TheVariants as kinds
use Rattle.ice_types.specs.declared.declarations.Shape.{Shape}
use Rattle.ice_types.specs.Tables.{Tables}
use Rattle.ice_encoding.specs.Tree.{reference, none, tree}
use Rattle.ice_encoding.specs.Graph.{Slice, Graph}
use Rattle.ice_encoding.specs.Instances.{class_fits, slices_of, most_instances}
use Rattle.ice_encoding.specs.Names.{listed_name, instance_names, renamed_name, renamed_slice}
use Rattle.ice_encoding.specs.OptionalMembers.{with_optional}
use Rattle.ice_encoding.specs.SameGraph.{AreListed, form, numbered}
use Rattle.ice_encoding.specs.TypedGraph.{IsHeldIn, RefersIn, IsInstance, OfType}
use Rattle.ice_encoding.specs.Visiting.{place, most, order, visit_each, visit_at}
use Rattle.ice_encoding.specs.CanonicalGraph.{Pen, sliced, blank, bytes_of, canonical_graph, written_names}
use Rattle.graph_arena.specs.Arena.{AreBelow}
use Rattle.graph_laws.proofs.Upto.{upto, length-upto, place-upto}
use Rattle.graph_laws.proofs.Formed.{get_or-upto, instance-typed, upto-listed, listed-upto}
use Rattle.graph_laws.proofs.InOrder.{numbered_itself}
use Rattle.graph_laws.proofs.Narrowed.{Narrow}
use Rattle.graph_laws.proofs.Numbered.{numbered-at}
use Rattle.graph_laws.proofs.Renamed.{Moves}
use Rattle.canonical_inputs.specs.Standing.{Then, Has}
use Rattle.canonical_inputs.specs.Fitting.{deepest, Classes, by_class, IsOf, AreEntries, EntriesStand, BasesStand, Whole}
use Rattle.canonical_inputs.specs.Written.{IsWritten, one_member}
use Rattle.canonical_inputs.proofs.Nested.{Says, sound_roots, refer_at}

-- the graph of these instances, whose root is a reference to one
abbrev rooted : ℕ → List (List Slice) → Graph
rooted n news = record { roots = with_optional (tree (reference (Some n)) none) []; instances = news }

-- a visit goes one level deeper
deepest_is : suc deepest ≡ most
unfolding deepest most
deepest_is = omega arith

below_most : deepest ≤ most
below_most = let e = deepest_is in omega (arith, e)

few_enough : (k : ℕ) → k ≤ 100000 → k ≤ most_instances
unfolding most_instances
few_enough k le = le

module _ (t : Tables) (classes : Classes) (name : List ℕ) (declared : Option ℕ) (n : ℕ) (content : List ℕ) (q : Pen) (news : List (List Slice))
    (fits : class_fits t declared (classes n) ≡ true) (stands : EntriesStand t classes deepest (n ∷ []) blank content q news) (few : q.begun ≤ 100000) where
  abbrev g : Graph
  g = rooted n news

  abbrev k : ℕ
  k = length news

  says : Says g (IsOf t classes) (written_names t (refer_at g (IsOf t classes) t most) (n ∷ [])) (visit_at (suc deepest) g) (n ∷ []) blank content q news
  says = sound_roots g (IsOf t classes) t deepest most deepest below_most (omega arith) (n ∷ []) blank content q news stands

  many : q.begun ≡ k
  many = let e = says.begun in omega (arith, e)

  has : Has g 0 news
  has i lt = let e : 0 + i ≡ i = omega arith in ap (slices_of news) e

  good : (i : ℕ) → i < k → IsOf t classes i (slices_of news i)
  good i lt = let e : 0 + i ≡ i = omega arith in subst (λ (m : ℕ). IsOf t classes m (slices_of news i)) e (says.good i lt)

  inside : (i : ℕ) → i < k → AreBelow k (instance_names (slices_of news i))
  inside i lt = subst (λ (m : ℕ). AreBelow m (instance_names (slices_of news i))) many (says.inside i lt)

  root_below : AreBelow k (n ∷ [])
  root_below = subst (λ (m : ℕ). AreBelow m (n ∷ [])) many says.below

  in_order : order g ≡ upto k
  unfolding order
  in_order = ap (λ (d : ℕ). visit_each (visit_at d g) (n ∷ []) []) (sym deepest_is) ∙ says.order has ∙ ap upto many

  itself : numbered (upto k) g ≡ g
  itself = numbered_itself g root_below inside

  -- ---- its type

  abbrev f : ℕ → ℕ
  f = place (upto k)

  still : (i : ℕ) → i < k → map (renamed_slice f) (slices_of news i) ≡ slices_of news i
  still i lt =
      ap (λ (m : ℕ). map (renamed_slice f) (slices_of news m)) (sym (get_or-upto k i lt))
      ∙ sym (numbered-at (upto k) g i (omega (arith, lt, length-upto k))) ∙ ap (λ (h : Graph). slices_of h.instances i) itself

  to_held : (declared m : Option ℕ) → (by_class t classes).Held declared m × AreListed (upto k) (listed_name m) → IsHeldIn t news declared (renamed_name f m)
  to_held declared None h = tt
  to_held declared (Some m) h =
      let lt : m < k = listed-upto k m h.1.0 in
      let at : f m ≡ m = place-upto k m lt in
      subst (λ (i : ℕ). IsHeldIn t news declared (Some i)) (sym at) (lt, ap (class_fits t declared) (good m lt).0 ∙ h.0)

  moves : Moves f (Narrow (by_class t classes) (upto k)) (RefersIn t news)
  moves = (omega arith, to_held)

  each_typed : (i : ℕ) → i < k → IsInstance t (RefersIn t news) (slices_of news i)
  each_typed i lt =
      subst (IsInstance t (RefersIn t news)) (still i lt)
      (instance-typed t f (upto k) (by_class t classes) (RefersIn t news) moves (slices_of news i) (upto-listed k (instance_names (slices_of news i)) (inside i lt)) (good i lt).1)

  typed : OfType t (one_member name (kinds.Class declared)) g
  typed = record {
    roots = record {
      required = (reference (Some n), none, refl, (Some n, (root_below.0, ap (class_fits t declared) (good n root_below.0).0 ∙ fits), refl), refl);
      optional = tt;
    };
    instances = each_typed;
  }

  -- ---- its bytes

  are : content ≡ canonical_graph t (one_member name (kinds.Class declared)) sliced g
  unfolding canonical_graph form
  are =
      let shape : Shape = one_member name (kinds.Class declared) in
      let wrote = says.are has in
      sym (ap (λ (ns : List ℕ). bytes_of t shape sliced (numbered ns g)) in_order ∙ ap (bytes_of t shape sliced) itself ∙ append-nil _ ∙ ap (λ (r : List ℕ × Pen). r.0) wrote)

  written : IsWritten t (one_member name (kinds.Class declared)) content
  written = record {
    graph = g;
    typed = typed;
    few = few_enough (length (order g)) (omega (arith, ap length in_order, length-upto k, many, few));
    are = are;
  }

-- a content that is whole is written for a graph
pub assembled : (t : Tables) (name : List ℕ) (declared : Option ℕ) (content met : List ℕ) (q : Pen) → length met ≤ 100000 → q.begun ≡ length met → Whole t declared (slice_get met) content q
    → IsWritten t (one_member name (kinds.Class declared)) content
assembled t name declared content met q few begun (names, slices, news, entries, bases, stands) = by_names names entries stands
  where
    by_names : (names : List ℕ) → AreEntries t (slice_get met) (declared ∷ []) None names → Then (EntriesStand t (slice_get met) deepest names) (BasesStand t (slice_get met) deepest slices) blank content q news → IsWritten t (one_member name (kinds.Class declared)) content
    by_names [] h both = absurd h
    by_names (n ∷ m ∷ ms) h both = absurd h.2
    by_names (n ∷ []) h (a, b, mid, first, others, parts, all, entry, rest) =
        let none : BasesStand t (slice_get met) deepest [] mid b q others = subst (λ (ss : List Slice). BasesStand t (slice_get met) deepest ss mid b q others) bases rest in
        let whole : a ≡ content = sym (parts ∙ ap (λ (l : List ℕ). a ++ l) none.0 ∙ append-nil a) in
        let everything : first ≡ news = sym (all ∙ ap (λ (l : List (List Slice)). first ++ l) none.2 ∙ append-nil first) in
        let here : EntriesStand t (slice_get met) deepest (n ∷ []) blank content q news =
        subst (λ (l : List ℕ). EntriesStand t (slice_get met) deepest (n ∷ []) blank l q news) whole
        (subst (λ (x : Pen). EntriesStand t (slice_get met) deepest (n ∷ []) blank a x news) (sym none.1)
        (subst (λ (l : List (List Slice)). EntriesStand t (slice_get met) deepest (n ∷ []) blank a mid l) everything entry)) in
        written t (slice_get met) name declared n content q news h.1 here (subst (λ (m : ℕ). m ≤ 100000) (sym begun) few)
