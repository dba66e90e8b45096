-- Where names are numbers by first visit, they are so in what one sees who lacks classes: a table has the names of its slice
-- in order of first use.
use Rattle.std.proofs.Common.{ℕ, zero, suc, ◌≡◌, ◌<◌, ◌≤◌, List, [], ◌∷◌, ◌++◌, length, sym, ap, ◌∙◌, subst, inl, inr, arith}
use Rattle.std.proofs.lemmas.Bool.{cases_lt, le-ltb}
use Rattle.ice_types.specs.Tables.{Tables}
use Rattle.ice_encoding.specs.OptionalMembers.{Members}
use Rattle.ice_encoding.specs.Graph.{Slice, known, unknown, Graph}
use Rattle.ice_encoding.specs.Names.{names_of, slice_names, instance_names}
use Rattle.ice_encoding.specs.Instances.{slices_of}
use Rattle.ice_encoding.specs.Visiting.{place, is_listed, visit_each, visit_at, most, order}
use Rattle.ice_encoding.specs.CanonicalGraph.{each_once}
use Rattle.graph_arena.specs.Arena.{AreBelow}
use Rattle.graph_arena.proofs.Agreeing.{below-left, below-right}
use Rattle.graph_laws.proofs.Upto.{upto, unlisted-upto, visit-grows, each-append, parts}
use Rattle.graph_laws.proofs.Once.{Deep, false-elim, listed-stays, entered, next, once-run, once-below}
use Rattle.graph_laws.proofs.Closing.{ClosedAs, AllClosed, EachClosed, closed_slices}
use Rattle.graph_laws.proofs.Entries.{below_both}

module _ (t u : Tables) (k h : Graph) (closed : EachClosed t u k.instances h.instances)
    (range : (n : ℕ) → n < length k.instances → AreBelow (length k.instances) (instance_names (slices_of k.instances n))) where
  abbrev limit : ℕ
  limit = length k.instances

  abbrev Goes : ℕ → Type 0
  Goes depth = (n i j : ℕ) → n < limit → Deep limit depth i → visit_at depth k n (upto i) ≡ upto j → visit_at depth h n (upto i) ≡ upto j

  each_goes : (depth : ℕ) → Goes depth → (xs : List ℕ) (i j : ℕ) → AreBelow limit xs → Deep limit depth i → visit_each (visit_at depth k) xs (upto i) ≡ upto j → visit_each (visit_at depth h) xs (upto i) ≡ upto j
  each_goes depth go [] i j below deep e = e
  each_goes depth go (x ∷ xs) i j below deep e =
      let p = parts (visit_at depth k) (visit-grows depth k) (x ∷ []) xs i j e in
      ap (visit_each (visit_at depth h) xs) (go x i p.mid below.0 deep p.first) ∙ each_goes depth go xs p.mid j below.1 (omega (arith, deep, p.low)) p.second

  slice_goes : (depth : ℕ) → Goes depth → (s r : Slice) → ClosedAs t u s r → (i j : ℕ) → AreBelow limit (slice_names s) → Deep limit depth i → visit_each (visit_at depth k) (slice_names s) (upto i) ≡ upto j → visit_each (visit_at depth h) (slice_names r) (upto i) ≡ upto j
  slice_goes depth go (unknown id bytes o table) r (is, hidden) i j below deep e = subst (λ (s : Slice). visit_each (visit_at depth h) (slice_names s) (upto i) ≡ upto j) (sym is) (each_goes depth go table i j below deep e)
  slice_goes depth go (known a content) r (inl (b, is, tied)) i j below deep e = subst (λ (s : Slice). visit_each (visit_at depth h) (slice_names s) (upto i) ≡ upto j) (sym is) (each_goes depth go (names_of content) i j below deep e)
  slice_goes depth go (known a content) r (inr (x, is, named, hidden, written)) i j below deep e = subst (λ (s : Slice). visit_each (visit_at depth h) (slice_names s) (upto i) ≡ upto j) (sym is)
      (each_goes depth go (each_once [] (names_of content)) i j (once-below limit [] (names_of content) below) deep (once-run k limit depth [] (names_of content) i j deep tt below e))

  slices_go : (depth : ℕ) → Goes depth → (ss rs : List Slice) → AllClosed t u ss rs → (i j : ℕ) → AreBelow limit (instance_names ss) → Deep limit depth i → visit_each (visit_at depth k) (instance_names ss) (upto i) ≡ upto j → visit_each (visit_at depth h) (instance_names rs) (upto i) ≡ upto j
  slices_go depth go [] rs e i j below deep run = subst (λ (l : List Slice). visit_each (visit_at depth h) (instance_names l) (upto i) ≡ upto j) (sym e) run
  slices_go depth go (s ∷ ss) rs (r, others, is, one, rest) i j below deep run =
      let p = parts (visit_at depth k) (visit-grows depth k) (slice_names s) (instance_names ss) i j run in
      subst (λ (l : List Slice). visit_each (visit_at depth h) (instance_names l) (upto i) ≡ upto j) (sym is)
      (each-append (visit_at depth h) (slice_names r) (instance_names others) (upto i)
      ∙ ap (visit_each (visit_at depth h) (instance_names others)) (slice_goes depth go s r one i p.mid (below-left limit (slice_names s) (instance_names ss) below) deep p.first)
      ∙ slices_go depth go ss others rest p.mid j (below-right limit (slice_names s) (instance_names ss) below) (omega (arith, deep, p.low)) p.second)

  visit_goes : (depth : ℕ) → Goes depth
  visit_goes zero n i j lt deep e = e
  visit_goes (suc depth) n i j lt deep e = elim (cases_lt n i) [
    | inl less ↦ listed-stays (suc depth) h n i less ∙ (sym (listed-stays (suc depth) k n i less) ∙ e)
    | inr le ↦ (
        let run = entered depth k n i j le e in
        let x = next depth k n i j run in
        let at : upto i ++ n ∷ [] ≡ upto (suc i) = ap (λ (m : ℕ). upto i ++ m ∷ []) x.is in
        let inside : visit_each (visit_at depth k) (instance_names (slices_of k.instances n)) (upto (suc i)) ≡ upto j = ap (visit_each (visit_at depth k) (instance_names (slices_of k.instances n))) (sym at) ∙ run in
        let there = slices_go depth (visit_goes depth) (slices_of k.instances n) (slices_of h.instances n) (closed_slices t u k.instances h.instances n closed) (suc i) j (range n lt) (omega (arith, deep)) inside in
        false-elim (is_listed (upto i) n) (upto i) (visit_each (visit_at depth h) (instance_names (slices_of h.instances n)) (upto i ++ n ∷ [])) (le-ltb (place (upto i) n) (length (upto i)) (unlisted-upto i n le))
        ∙ (ap (visit_each (visit_at depth h) (instance_names (slices_of h.instances n))) at ∙ there))
  ]

  pub order_closed : h.roots ≡ k.roots → AreBelow limit (names_of k.roots) → limit ≤ most → order k ≡ upto limit → order h ≡ upto limit
  unfolding order
  order_closed roots below small e = ap (λ (c : Members). visit_each (visit_at most h) (names_of c) []) roots ∙ each_goes most (visit_goes most) (names_of k.roots) 0 limit below (omega (arith, small)) e

  -- names stay below
  slice_below : (s r : Slice) → ClosedAs t u s r → AreBelow limit (slice_names s) → AreBelow limit (slice_names r)
  slice_below (unknown id bytes o table) r (is, hidden) below = subst (λ (s : Slice). AreBelow limit (slice_names s)) (sym is) below
  slice_below (known a content) r (inl (b, is, tied)) below = subst (λ (s : Slice). AreBelow limit (slice_names s)) (sym is) below
  slice_below (known a content) r (inr (x, is, named, hidden, written)) below = subst (λ (s : Slice). AreBelow limit (slice_names s)) (sym is) (once-below limit [] (names_of content) below)

  pub slices_below : (ss rs : List Slice) → AllClosed t u ss rs → AreBelow limit (instance_names ss) → AreBelow limit (instance_names rs)
  slices_below [] rs e below = subst (λ (l : List Slice). AreBelow limit (instance_names l)) (sym e) below
  slices_below (s ∷ ss) rs (r, others, is, one, rest) below = subst (λ (l : List Slice). AreBelow limit (instance_names l)) (sym is)
      (below_both limit (slice_names r) (instance_names others) (slice_below s r one (below-left limit (slice_names s) (instance_names ss) below)) (slices_below ss others rest (below-right limit (slice_names s) (instance_names ss) below)))
