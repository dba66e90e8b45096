-- Visits by a stack of what is still to be visited.
use Rattle.std.proofs.Common.{◌≡◌, ℕ, zero, suc, ◌+◌, ◌<◌, ◌≤◌, Bool, true, false, List, [], ◌∷◌, ◌++◌, length, refl, sym, ap, ◌∙◌, subst, append_assoc, length-append, arith}
use Rattle.std.proofs.lemmas.List.{append-nil, reverse-append, length-reverse}
use Rattle.ice_encoding.specs.Graph.{Graph}
use Rattle.ice_encoding.specs.Instances.{slices_of}
use Rattle.ice_encoding.specs.Names.{names_of, instance_names}
use Rattle.ice_encoding.specs.Visiting.{is_listed, visit_each, visit_at, most, order}
use Rattle.graph_arena.specs.Arena.{AreBelow, IsSound}
use Rattle.graph_arena.specs.Listing.{from_top}
use Rattle.graph_arena.proofs.Fitting.{fits-at}
use Rattle.graph_arena.proofs.Listed.{fresh, weight, weight-less, weight-falls, fresh-most, all-listed}

-- ---- what a visit adds stands at the end

abbrev Grows : (ℕ → List ℕ → List ℕ) → Type 0
Grows visit = (n : ℕ) (seen : List ℕ) → (more : List ℕ) × (visit n seen ≡ seen ++ more)

each-grows : (visit : ℕ → List ℕ → List ℕ) → Grows visit → (ns seen : List ℕ) → (more : List ℕ) × (visit_each visit ns seen ≡ seen ++ more)
each-grows visit grows [] seen = ([], sym (append-nil seen))
each-grows visit grows (n ∷ ns) seen =
    let one = grows n seen in
    let others = each-grows visit grows ns (visit n seen) in
    (one.0 ++ others.0, others.1 ∙ ap (λ (l : List ℕ). l ++ others.0) one.1 ∙ append_assoc seen one.0 others.0)

branch-grows : (seen out : List ℕ) (n : ℕ) (b : Bool) → ((more : List ℕ) × (out ≡ (seen ++ n ∷ []) ++ more)) → (more : List ℕ) × (elim b [ true ↦ seen | false ↦ out ] ≡ seen ++ more)
branch-grows seen out n true m = ([], sym (append-nil seen))
branch-grows seen out n false m = (n ∷ m.0, m.1 ∙ append_assoc seen (n ∷ []) m.0)

visit-grows : (depth : ℕ) (g : Graph) → Grows (visit_at depth g)
visit-grows zero g n seen = ([], sym (append-nil seen))
visit-grows (suc depth) g n seen =
    branch-grows seen (visit_each (visit_at depth g) (instance_names (slices_of g.instances n)) (seen ++ n ∷ [])) n (is_listed seen n)
    (each-grows (visit_at depth g) (visit-grows depth g) (instance_names (slices_of g.instances n)) (seen ++ n ∷ []))

each-append : (visit : ℕ → List ℕ → List ℕ) (a b seen : List ℕ) → visit_each visit (a ++ b) seen ≡ visit_each visit b (visit_each visit a seen)
each-append visit [] b seen = refl
each-append visit (n ∷ a) b seen = each-append visit a b (visit n seen)

-- ---- more levels than there are places to be listed change nothing

abbrev Alike : ℕ → ℕ → (ℕ → List ℕ → List ℕ) → (ℕ → List ℕ → List ℕ) → Type 0
Alike count depth visit other = (n : ℕ) (seen : List ℕ) → n < count → fresh count seen ≤ depth → visit n seen ≡ other n seen

each-alike : (count depth : ℕ) (visit other : ℕ → List ℕ → List ℕ) → Grows visit → Alike count depth visit other → (ns seen : List ℕ) → AreBelow count ns → fresh count seen ≤ depth → visit_each visit ns seen ≡ visit_each other ns seen
each-alike count depth visit other grows alike [] seen below few = refl
each-alike count depth visit other grows alike (n ∷ ns) seen below few =
    let grown = grows n seen in
    let fewer : fresh count (visit n seen) ≤ depth = subst (λ (l : List ℕ). fresh count l ≤ depth) (sym grown.1) (omega (arith, weight-falls (λ n. 1) count seen grown.0, few)) in
    each-alike count depth visit other grows alike ns (visit n seen) below.1 fewer ∙ ap (visit_each other ns) (alike n seen below.0 few)

when-listed : (b : Bool) (seen out : List ℕ) → b ≡ true → elim b [ true ↦ seen | false ↦ out ] ≡ seen
when-listed true seen out is = refl
when-listed false seen out is = absurd (cc is)

when-new : (b : Bool) (seen out : List ℕ) → b ≡ false → elim b [ true ↦ seen | false ↦ out ] ≡ out
when-new true seen out is = absurd (cc is)
when-new false seen out is = refl

branch-alike : (b : Bool) (seen out other : List ℕ) → (b ≡ false → out ≡ other) → ◌≡◌ {A = List ℕ} (elim b [ true ↦ seen | false ↦ out ]) (elim b [ true ↦ seen | false ↦ other ])
branch-alike true seen out other same = refl
branch-alike false seen out other same = same refl

module _ (g : Graph) where
  abbrev count : ℕ
  count = length g.instances

  abbrev names_at : ℕ → List ℕ
  names_at n = instance_names (slices_of g.instances n)

  -- every name in an instance is the place of one
  abbrev pub InRange : Type 0
  InRange = (n : ℕ) → n < length g.instances → AreBelow (length g.instances) (instance_names (slices_of g.instances n))

  visit-listed : (depth n : ℕ) (seen : List ℕ) → is_listed seen n ≡ true → visit_at depth g n seen ≡ seen
  visit-listed zero n seen listed = refl
  visit-listed (suc depth) n seen listed = when-listed (is_listed seen n) seen (visit_each (visit_at depth g) (names_at n) (seen ++ n ∷ [])) listed

  more-levels : InRange → (depth more : ℕ) → depth ≤ more → Alike count depth (visit_at depth g) (visit_at more g)
  more-levels range zero more le n seen lt few = sym (visit-listed more n seen (all-listed count seen n lt few))
  more-levels range (suc depth) zero le n seen lt few = absurd (omega (arith, le))
  more-levels range (suc depth) (suc more) le n seen lt few =
      branch-alike (is_listed seen n) seen (visit_each (visit_at depth g) (names_at n) (seen ++ n ∷ [])) (visit_each (visit_at more g) (names_at n) (seen ++ n ∷ [])) (λ new.
      each-alike count depth (visit_at depth g) (visit_at more g) (visit-grows depth g) (more-levels range depth more (omega (arith, le))) (names_at n) (seen ++ n ∷ []) (range n lt)
      (omega (arith, few, weight-less (λ n. 1) count seen n lt new)))

  pub range-of : IsSound g → InRange
  range-of sound = λ n lt. (fits-at (length g.instances) n g.instances sound.instances lt).names

  -- ---- the place on top

  pub top-listed : (depth n : ℕ) (ns seen : List ℕ) → is_listed seen n ≡ true → visit_each (visit_at depth g) (n ∷ ns) seen ≡ visit_each (visit_at depth g) ns seen
  top-listed depth n ns seen listed = ap (visit_each (visit_at depth g) ns) (visit-listed depth n seen listed)

  pub top-new : InRange → (depth n : ℕ) (ns seen : List ℕ) → length g.instances ≤ depth → n < length g.instances → is_listed seen n ≡ false
      → visit_each (visit_at depth g) (n ∷ ns) seen ≡ visit_each (visit_at depth g) (names_at n ++ ns) (seen ++ n ∷ [])
  top-new range zero n ns seen deep lt new = absurd (omega (arith, deep, lt))
  top-new range (suc depth) n ns seen deep lt new =
      let few : fresh count (seen ++ n ∷ []) ≤ depth = omega (arith, deep, fresh-most count seen, weight-less (λ n. 1) count seen n lt new) in
      let inside : visit_at (suc depth) g n seen ≡ visit_each (visit_at (suc depth) g) (names_at n) (seen ++ n ∷ []) =
      when-new (is_listed seen n) seen (visit_each (visit_at depth g) (names_at n) (seen ++ n ∷ [])) new
      ∙ each-alike count depth (visit_at depth g) (visit_at (suc depth) g) (visit-grows depth g) (more-levels range depth (suc depth) (omega arith)) (names_at n) (seen ++ n ∷ []) (range n lt) few in
      ap (visit_each (visit_at (suc depth) g) ns) inside ∙ sym (each-append (visit_at (suc depth) g) (names_at n) ns (seen ++ n ∷ []))

  -- what is still to be done, in places on the stack and instances with their names
  abbrev pub work : List ℕ → List ℕ → ℕ
  work seen stack = length stack + weight (λ n. suc (length (instance_names (slices_of g.instances n)))) (length g.instances) seen

  pub order-begins : (stack : List ℕ) → from_top stack ≡ names_of g.roots → visit_each (visit_at most g) (from_top stack) [] ≡ order g
  unfolding order
  order-begins stack is = ap (λ (ns : List ℕ). visit_each (visit_at most g) ns []) is

  -- ---- the stack

  from_top-last : (stack : List ℕ) (n : ℕ) → from_top (stack ++ n ∷ []) ≡ n ∷ from_top stack
  from_top-last stack n = reverse-append stack (n ∷ [])

  below-append : (limit : ℕ) (a b : List ℕ) → AreBelow limit a → AreBelow limit b → AreBelow limit (a ++ b)
  below-append limit [] b p q = q
  below-append limit (n ∷ a) b p q = (p.0, below-append limit a b p.1 q)

  -- the place on top is taken
  module _ (depth : ℕ) (stack rest : List ℕ) (n : ℕ) (taken : stack ≡ rest ++ n ∷ []) where
    abbrev visit : ℕ → List ℕ → List ℕ
    visit = visit_at depth g

    top-is : from_top stack ≡ n ∷ from_top rest
    top-is = ap from_top taken ∙ from_top-last rest n

    pub below-taken : (limit : ℕ) → AreBelow limit (from_top stack) → (n < limit) × AreBelow limit (from_top rest)
    below-taken limit below = subst (AreBelow limit) top-is below

    pub left-listed : (old new out : List ℕ) → is_listed old n ≡ true → new ≡ old → visit_each visit (from_top stack) old ≡ out → visit_each visit (from_top rest) new ≡ out
    left-listed old new out listed same left =
        ap (visit_each visit (from_top rest)) same ∙ (sym (top-listed depth n (from_top rest) old listed) ∙ (ap (λ (ns : List ℕ). visit_each visit ns old) (sym top-is) ∙ left))

    module _ (names now : List ℕ) (named : names ≡ names_at n) (put : from_top now ≡ names ++ from_top rest) where
      pub below-put : (limit : ℕ) → AreBelow limit (from_top stack) → AreBelow limit names → AreBelow limit (from_top now)
      below-put limit below below_names = subst (AreBelow limit) (sym put) (below-append limit names (from_top rest) below_names (below-taken limit below).1)

      pub left-new : InRange → length g.instances ≤ depth → (old new out : List ℕ) → AreBelow (length g.instances) (from_top stack) → is_listed old n ≡ false → new ≡ old ++ n ∷ []
          → visit_each visit (from_top stack) old ≡ out → visit_each visit (from_top now) new ≡ out
      left-new range deep old new out below unseen more left =
          ap (visit_each visit (from_top now)) more
          ∙ (ap (λ (ns : List ℕ). visit_each visit ns (old ++ n ∷ [])) (put ∙ ap (λ (ns : List ℕ). ns ++ from_top rest) named)
          ∙ (sym (top-new range depth n (from_top rest) old deep (below-taken (length g.instances) below).0 unseen)
          ∙ (ap (λ (ns : List ℕ). visit_each visit ns old) (sym top-is) ∙ left)))

      pub work-new : (old new : List ℕ) → AreBelow (length g.instances) (from_top stack) → is_listed old n ≡ false → new ≡ old ++ n ∷ [] → work new now < work old stack
      work-new old new below unseen more =
          let less = weight-less (λ m. suc (length (names_at m))) count old n (below-taken count below).0 unseen in
          let here : weight (λ m. suc (length (names_at m))) count new ≡ weight (λ m. suc (length (names_at m))) count (old ++ n ∷ []) = ap (weight (λ m. suc (length (names_at m))) count) more in
          let deep : length now ≡ length (names_at n) + length rest = sym (length-reverse now) ∙ (ap length put ∙ (length-append names (from_top rest) ∙ omega (arith, ap length named, length-reverse rest))) in
          omega (arith, less, here, deep, ap length taken, length-append rest (n ∷ []))
