-- The order of first visits holds what is reached, where the graph is no larger than a graph may be, or fewer names than that are reached.
use Rattle.std.proofs.Common.{ℕ, zero, suc, ◌+◌, ◌<◌, ◌≤◌, ◌≡◌, ◌⊎◌, Bool, true, false, List, [], ◌∷◌, ◌++◌, length, refl, sym, ap, subst, arith, inl, inr}
use Rattle.std.proofs.lemmas.Bool.{cases_lt, ltb-true, ltb-false}
use Rattle.std.proofs.lemmas.List.{length-append}
use Rattle.ice_types.specs.declared.declarations.Shape.{Shape}
use Rattle.ice_types.specs.Tables.{Tables}
use Rattle.ice_encoding.specs.Graph.{Graph}
use Rattle.ice_encoding.specs.Names.{names_of, instance_names}
use Rattle.ice_encoding.specs.Instances.{slices_of}
use Rattle.ice_encoding.specs.Visiting.{place, is_listed, visit_each, visit_at, most, order}
use Rattle.ice_encoding.specs.SameGraph.{AreListed, HasEachOnce}
use Rattle.ice_encoding.specs.TypedGraph.{OfType}
use Rattle.graph_laws.proofs.Ranged as ranged
use Rattle.graph_arena.specs.Arena.{AreBelow}
use Rattle.graph_arena.proofs.Closed.{listed-left, listed-end, listed-split, once-end, below-end, few, IsOrder}
use Rattle.graph_laws.proofs.Upto.{each-grows, visit-grows}
use Rattle.graph_laws.proofs.Formed.{Reached}

unknown-listed : (a more xs : List ℕ) → AreListed a xs → AreListed (a ++ more) xs
unknown-listed a more [] listed = tt
unknown-listed a more (x ∷ xs) listed = (listed-left a more x listed.0, unknown-listed a more xs listed.1)

below : (limit : ℕ) (ns : List ℕ) → ranged.AreBelow limit ns → AreBelow limit ns
below limit [] h = tt
below limit (n ∷ ns) h = (h.0, below limit ns h.1)

-- From a list as long as `start`, visits so deep have listed `out` at their end: fewer than that can list, or there are no more instances.
abbrev Deep : ℕ → ℕ → ℕ → ℕ → Type 0
Deep count depth start out = (out < depth + start) ⊎ (count ≤ depth + start)

deep-front : (count depth start mid out : ℕ) → mid ≤ out → Deep count depth start out → Deep count depth start mid
deep-front count depth start mid out le (inl lt) = inl (omega (arith, le, lt))
deep-front count depth start mid out le (inr few) = inr few

deep-rest : (count depth start mid out : ℕ) → start ≤ mid → Deep count depth start out → Deep count depth mid out
deep-rest count depth start mid out le (inl lt) = inl (omega (arith, le, lt))
deep-rest count depth start mid out le (inr few) = inr (omega (arith, le, few))

deep-inside : (count depth start mid out : ℕ) → mid ≡ suc start → Deep count (suc depth) start out → Deep count depth mid out
deep-inside count depth start mid out is (inl lt) = inl (omega (arith, is, lt))
deep-inside count depth start mid out is (inr few) = inr (omega (arith, is, few))

-- the names listed so far
record Fine (g : Graph) (seen : List ℕ) : Type 0 where
  once : HasEachOnce seen
  below : AreBelow (length g.instances) seen

-- what visits leave: what was listed, and names whose own names are listed
record Closes (g : Graph) (xs seen out : List ℕ) : Type 0 where
  fine : Fine g out
  visited : AreListed out xs
  closed : (m : ℕ) → place out m < length out → (place seen m < length seen) ⊎ AreListed out (instance_names (slices_of g.instances m))

module _ (g : Graph) (range : (n : ℕ) → n < length g.instances → AreBelow (length g.instances) (instance_names (slices_of g.instances n))) where
  abbrev count : ℕ
  count = length g.instances

  abbrev VisitCloses : ℕ → Type 0
  VisitCloses depth = (n : ℕ) (seen : List ℕ) → n < count → Fine g seen → Deep count depth (length seen) (length (visit_at depth g n seen)) → Closes g (n ∷ []) seen (visit_at depth g n seen)

  each-closes : (depth : ℕ) → VisitCloses depth → (xs seen : List ℕ) → AreBelow count xs → Fine g seen → Deep count depth (length seen) (length (visit_each (visit_at depth g) xs seen)) → Closes g xs seen (visit_each (visit_at depth g) xs seen)
  each-closes depth step [] seen in_range fine deep = record { fine = fine; visited = tt; closed = λ m lt. inl lt }
  each-closes depth step (x ∷ xs) seen in_range fine deep =
      let mid : List ℕ = visit_at depth g x seen in
      let out : List ℕ = visit_each (visit_at depth g) xs mid in
      let first = visit-grows depth g x seen in
      let grown = each-grows (visit_at depth g) (visit-grows depth g) xs mid in
      let one = step x seen in_range.0 fine (deep-front count depth (length seen) (length mid) (length out) (omega (arith, ap length grown.1, length-append mid grown.0)) deep) in
      let others = each-closes depth step xs mid in_range.1 one.fine (deep-rest count depth (length seen) (length mid) (length out) (omega (arith, ap length first.1, length-append seen first.0)) deep) in
      record {
        fine = others.fine;
        visited = (subst (λ (l : List ℕ). place l x < length l) (sym grown.1) (listed-left mid grown.0 x one.visited.0), others.visited);
        closed = λ m lt. elim (others.closed m lt) [
          | inl in_mid ↦ elim (one.closed m in_mid) [
            | inl earlier ↦ inl earlier
            | inr listed ↦ inr (subst (λ (l : List ℕ). AreListed l (instance_names (slices_of g.instances m))) (sym grown.1) (unknown-listed mid grown.0 (instance_names (slices_of g.instances m)) listed))
          ]
          | inr listed ↦ inr listed
        ];
      }

  stays : (n : ℕ) (seen : List ℕ) → Fine g seen → place seen n < length seen → Closes g (n ∷ []) seen seen
  stays n seen fine lt = record { fine = fine; visited = (lt, tt); closed = λ m h. inl h }

  enters : (n : ℕ) (seen out more : List ℕ) → out ≡ (seen ++ n ∷ []) ++ more → Closes g (instance_names (slices_of g.instances n)) (seen ++ n ∷ []) out → Closes g (n ∷ []) seen out
  enters n seen out more grown c = record {
    fine = c.fine;
    visited = (subst (λ (l : List ℕ). place l n < length l) (sym grown) (listed-left (seen ++ n ∷ []) more n (listed-end seen n)), tt);
    closed = λ m lt. elim (c.closed m lt) [
      | inl here ↦ elim (listed-split seen n m here) [ inl earlier ↦ inl earlier | inr same ↦ inr (subst (λ (k : ℕ). AreListed out (instance_names (slices_of g.instances k))) same c.visited) ]
      | inr listed ↦ inr listed
    ];
  }

  by_listed : (depth n : ℕ) (seen out : List ℕ) (b : Bool) → is_listed seen n ≡ b → Fine g seen → Deep count (suc depth) (length seen) (length {A = ℕ} (elim b [ true ↦ seen | false ↦ out ]))
      → (length seen ≤ place seen n → Deep count (suc depth) (length seen) (length out) → Closes g (n ∷ []) seen out) → Closes g (n ∷ []) seen (elim b [ true ↦ seen | false ↦ out ])
  by_listed depth n seen out true e fine deep more = stays n seen fine (ltb-true (place seen n) (length seen) e)
  by_listed depth n seen out false e fine deep more = more (ltb-false (place seen n) (length seen) e) deep

  with-one : (n : ℕ) (seen : List ℕ) → n < count → Fine g seen → length seen ≤ place seen n → Fine g (seen ++ n ∷ [])
  with-one n seen lt fine fresh = record { once = once-end seen n fine.once fresh; below = below-end count seen n fine.below lt }

  visit-closes : (depth : ℕ) → VisitCloses depth
  visit-closes zero n seen lt fine (inl less) = absurd (omega (arith, less))
  visit-closes zero n seen lt fine (inr all) = elim (cases_lt (place seen n) (length seen)) [
    | inl listed ↦ stays n seen fine listed
    | inr fresh ↦ (let one = with-one n seen lt fine fresh in absurd (omega (arith, all, few count (seen ++ n ∷ []) one.once one.below, length-append seen (n ∷ []))))
  ]
  visit-closes (suc depth) n seen lt fine deep =
      let xs : List ℕ = instance_names (slices_of g.instances n) in
      let out : List ℕ = visit_each (visit_at depth g) xs (seen ++ n ∷ []) in
      let grown = each-grows (visit_at depth g) (visit-grows depth g) xs (seen ++ n ∷ []) in
      by_listed depth n seen out (is_listed seen n) refl fine deep (λ fresh room.
      enters n seen out grown.0 grown.1
      (each-closes depth (visit-closes depth) xs (seen ++ n ∷ []) (range n lt) (with-one n seen lt fine fresh) (deep-inside count depth (length seen) (length (seen ++ n ∷ [])) (length out) (omega (arith, length-append seen (n ∷ []))) room)))

module _ (t : Tables) (shape : Shape) (g : Graph) (typed : OfType t shape g) where
  order-closes : Deep (length g.instances) most 0 (length (order g)) → IsOrder g (order g)
  unfolding order
  order-closes deep =
      let names = ranged.in_range t shape g typed in
      let range : (n : ℕ) → n < length g.instances → AreBelow (length g.instances) (instance_names (slices_of g.instances n)) = λ n lt. below (length g.instances) (instance_names (slices_of g.instances n)) (names.instances n lt) in
      let c = each-closes g range most (visit-closes g range most) (names_of g.roots) [] (below (length g.instances) (names_of g.roots) names.roots) (record { once = tt; below = tt }) deep in
      record {
        holds = record { once = c.fine.once; roots = c.visited; instances = λ n lt. elim (c.closed n lt) [ inl no_name ↦ absurd (omega (arith, no_name)) | inr listed ↦ listed ] };
        below = c.fine.below;
      }

  -- of a graph that is no larger than a graph may be
  pub reached-small : length g.instances ≤ most → Reached g
  reached-small small =
      let is = order-closes (inr (omega (arith, small))) in
      record { is = is; few = omega (arith, few (length g.instances) (order g) is.holds.once is.below, small) }

  -- and of one where fewer are reached
  pub reached-few : length (order g) < most → Reached g
  reached-few fewer = record { is = order-closes (inl (omega (arith, fewer))); few = omega (arith, fewer) }
