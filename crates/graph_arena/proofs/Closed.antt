-- The order has each reached name once, and every name that its instances name.
use Rattle.std.proofs.Common.{ℕ, zero, suc, ◌+◌, ◌<◌, ◌≤◌, ◌≡◌, ◌⊎◌, Bool, true, false, eqb, List, [], ◌∷◌, ◌++◌, length, refl, sym, ap, ◌∙◌, subst, arith, inl, inr}
use Rattle.std.specs.List.{IsDistinct, AllByRecursion, list_any}
use Rattle.std.proofs.lemmas.Bool.{cases_lt, cases_eq, false≢true, or_cases, eqb-true, eq-eqb, ne_eqb, ltb-true, ltb-false}
use Rattle.std.proofs.lemmas.List.{length-append}
use Rattle.std.proofs.lemmas.Map.Steps.{length-le_from_distinct_below}
use Rattle.ice_encoding.specs.Names.{names_of, instance_names}
use Rattle.ice_encoding.specs.Visiting.{place, is_listed, visit_each, visit_at, order, most}
use Rattle.ice_encoding.specs.Graph.{Graph}
use Rattle.ice_encoding.specs.Instances.{slices_of}
use Rattle.ice_encoding.specs.SameGraph.{AreListed, HasEachOnce, Holds}
use Rattle.graph_arena.specs.Arena.{AreBelow, IsSound}
use Rattle.graph_arena.proofs.Visits.{InRange, range-of}

-- ---- places

pub place-head : (m : ℕ) (ms : List ℕ) (n : ℕ) → m ≡ n → place (m ∷ ms) n ≡ 0
place-head m ms n e = rw (eq-eqb m n e) refl

pub place-tail : (m : ℕ) (ms : List ℕ) (n : ℕ) → (m ≡ n → ⊥) → place (m ∷ ms) n ≡ suc (place ms n)
place-tail m ms n apart = rw (ne_eqb m n apart) refl

pub place-le : (ms : List ℕ) (n : ℕ) → place ms n ≤ length ms
place-le [] n = omega arith
place-le (m ∷ ms) n = elim (cases_eq m n) [ inl e ↦ omega (arith, place-head m ms n e) | inr apart ↦ omega (arith, place-tail m ms n apart, place-le ms n) ]

-- in the first part, or in the second
pub place-left : (a b : List ℕ) (n : ℕ) → place a n < length a → place (a ++ b) n ≡ place a n
place-left [] b n lt = absurd (omega arith)
place-left (m ∷ a) b n lt = elim (cases_eq m n) [
  | inl e ↦ place-head m (a ++ b) n e ∙ sym (place-head m a n e)
  | inr apart ↦ place-tail m (a ++ b) n apart ∙ ap suc (place-left a b n (omega (arith, place-tail m a n apart))) ∙ sym (place-tail m a n apart)
]

pub place-right : (a b : List ℕ) (n : ℕ) → length a ≤ place a n → place (a ++ b) n ≡ length a + place b n
place-right [] b n le = omega arith
place-right (m ∷ a) b n le = elim (cases_eq m n) [
  | inl e ↦ absurd (omega (arith, place-head m a n e))
  | inr apart ↦ place-tail m (a ++ b) n apart ∙ ap suc (place-right a b n (omega (arith, place-tail m a n apart))) ∙ omega arith
]

place-one : (n m : ℕ) → place (n ∷ []) m < 1 → n ≡ m
place-one n m lt = elim (cases_eq n m) [ inl e ↦ e | inr apart ↦ absurd (omega (arith, place-tail n [] m apart)) ]

pub listed-left : (a b : List ℕ) (n : ℕ) → place a n < length a → place (a ++ b) n < length (a ++ b)
listed-left a b n lt = omega (arith, place-left a b n lt, length-append a b)

pub listed-end : (a : List ℕ) (n : ℕ) → place (a ++ n ∷ []) n < length (a ++ n ∷ [])
listed-end a n = elim (cases_lt (place a n) (length a)) [
  | inl lt ↦ listed-left a (n ∷ []) n lt
  | inr le ↦ omega (arith, place-right a (n ∷ []) n le, place-head n [] n refl, length-append a (n ∷ []))
]

pub listed-split : (a : List ℕ) (n m : ℕ) → place (a ++ n ∷ []) m < length (a ++ n ∷ []) → (place a m < length a) ⊎ (n ≡ m)
listed-split a n m lt = elim (cases_lt (place a m) (length a)) [
  | inl here ↦ inl here
  | inr le ↦ inr (place-one n m (omega (arith, place-right a (n ∷ []) m le, length-append a (n ∷ []))))
]

pub once-end : (a : List ℕ) (n : ℕ) → HasEachOnce a → length a ≤ place a n → HasEachOnce (a ++ n ∷ [])
once-end [] n once le = (refl, tt)
once-end (m ∷ a) n once le = elim (cases_eq m n) [
  | inl e ↦ absurd (omega (arith, place-head m a n e))
  | inr apart ↦ (
    place-right a (n ∷ []) m (omega (arith, once.0)) ∙ (ap (λ (x : ℕ). length a + x) (place-tail n [] m (λ e. apart (sym e))) ∙ sym (length-append a (n ∷ []))),
    once-end a n once.1 (omega (arith, place-tail m a n apart)),
  )
]

pub below-end : (limit : ℕ) (a : List ℕ) (n : ℕ) → AreBelow limit a → n < limit → AreBelow limit (a ++ n ∷ [])
below-end limit [] n below lt = (lt, tt)
below-end limit (m ∷ a) n below lt = (below.0, below-end limit a n below.1 lt)

-- ---- no more names than there are numbers below the limit

apart-all : (x : ℕ) (ns : List ℕ) → place ns x ≡ length ns → AllByRecursion (λ y. eqb x y ≡ false) ns
apart-all x [] e = tt
apart-all x (n ∷ ns) e = elim (cases_eq n x) [
  | inl same ↦ absurd (omega (arith, place-head n ns x same))
  | inr apart ↦ (ne_eqb x n (λ d. apart (sym d)), apart-all x ns (omega (arith, place-tail n ns x apart)))
]

distinct : (ns : List ℕ) → HasEachOnce ns → IsDistinct eqb ns
unfolding IsDistinct
distinct [] once = tt
distinct (n ∷ ns) once = (apart-all n ns once.0, distinct ns once.1)

below-any : (limit : ℕ) (ns : List ℕ) → AreBelow limit ns → (q : ℕ) → list_any (eqb q) ns ≡ true → q < limit
below-any limit [] below q e = absurd (false≢true e)
below-any limit (n ∷ ns) below q e = elim (or_cases (eqb q n) (list_any (eqb q) ns) e) [
  | inl same ↦ omega (arith, below.0, eqb-true q n same)
  | inr more ↦ below-any limit ns below.1 q more
]

pub few : (limit : ℕ) (ns : List ℕ) → HasEachOnce ns → AreBelow limit ns → length ns ≤ limit
few limit ns once below = length-le_from_distinct_below ns limit (distinct ns once) (below-any limit ns below)

-- ---- visits

abbrev Keeps : List ℕ → List ℕ → Type 0
Keeps a b = (m : ℕ) → place a m < length a → place b m < length b

AreListed-unknown : (a b xs : List ℕ) → Keeps a b → AreListed a xs → AreListed b xs
AreListed-unknown a b [] keeps listed = tt
AreListed-unknown a b (x ∷ xs) keeps listed = (keeps x listed.0, AreListed-unknown a b xs keeps listed.1)

-- the names listed so far
record Fine (g : Graph) (seen : List ℕ) : Type 0 where
  once : HasEachOnce seen
  below : AreBelow (length g.instances) seen

-- what a visit leaves: what was listed, and names whose own names are listed
record Closes (g : Graph) (xs seen out : List ℕ) : Type 0 where
  fine : Fine g out
  keeps : Keeps seen out
  longer : length seen ≤ length out
  visited : AreListed out xs
  closed : (m : ℕ) → place out m < length out → (place seen m < length seen) ⊎ AreListed out (instance_names (slices_of g.instances m))

abbrev VisitCloses : Graph → ℕ → (ℕ → List ℕ → List ℕ) → Type 0
VisitCloses g depth visit = (n : ℕ) (seen : List ℕ) → n < length g.instances → Fine g seen → length g.instances ≤ depth + length seen → Closes g (n ∷ []) seen (visit n seen)

each-closes : (g : Graph) (depth : ℕ) (visit : ℕ → List ℕ → List ℕ) → VisitCloses g depth visit → (xs seen : List ℕ) → AreBelow (length g.instances) xs → Fine g seen → length g.instances ≤ depth + length seen → Closes g xs seen (visit_each visit xs seen)
each-closes g depth visit step [] seen below fine enough = record { fine = fine; keeps = λ m lt. lt; longer = omega arith; visited = tt; closed = λ m lt. inl lt }
each-closes g depth visit step (x ∷ xs) seen below fine enough =
    let one = step x seen below.0 fine enough in
    let mid = visit x seen in
    let others = each-closes g depth visit step xs mid below.1 one.fine (omega (arith, one.longer)) in
    let out = visit_each visit xs mid in
    record {
      fine = others.fine;
      keeps = λ m lt. others.keeps m (one.keeps m lt);
      longer = omega (arith, one.longer, others.longer);
      visited = (others.keeps x one.visited.0, others.visited);
      closed = λ m lt. elim (others.closed m lt) [
        | inl in_mid ↦ elim (one.closed m in_mid) [ inl before ↦ inl before | inr listed ↦ inr (AreListed-unknown mid out (instance_names (slices_of g.instances m)) others.keeps listed) ]
        | inr listed ↦ inr listed
      ];
    }

stays : (g : Graph) (n : ℕ) (seen : List ℕ) → Fine g seen → place seen n < length seen → Closes g (n ∷ []) seen seen
stays g n seen fine lt = record { fine = fine; keeps = λ m h. h; longer = omega arith; visited = (lt, tt); closed = λ m h. inl h }

enters : (g : Graph) (n : ℕ) (seen out : List ℕ) → Closes g (instance_names (slices_of g.instances n)) (seen ++ n ∷ []) out → Closes g (n ∷ []) seen out
enters g n seen out c = record {
  fine = c.fine;
  keeps = λ m lt. c.keeps m (listed-left seen (n ∷ []) m lt);
  longer = omega (arith, c.longer, length-append seen (n ∷ []));
  visited = (c.keeps n (listed-end seen n), tt);
  closed = λ m lt. elim (c.closed m lt) [
    | inl here ↦ elim (listed-split seen n m here) [ inl before ↦ inl before | inr same ↦ inr (subst (λ (k : ℕ). AreListed out (instance_names (slices_of g.instances k))) same c.visited) ]
    | inr listed ↦ inr listed
  ];
}

listed-closes : (g : Graph) (n : ℕ) (seen out : List ℕ) (b : Bool) → is_listed seen n ≡ b → Fine g seen → (length seen ≤ place seen n → Closes g (n ∷ []) seen out) → Closes g (n ∷ []) seen (elim b [ true ↦ seen | false ↦ out ])
listed-closes g n seen out true e fine more = stays g n seen fine (ltb-true (place seen n) (length seen) e)
listed-closes g n seen out false e fine more = more (ltb-false (place seen n) (length seen) e)

visit-closes : (g : Graph) → InRange g → (depth : ℕ) → VisitCloses g depth (visit_at depth g)
visit-closes g range zero n seen lt fine enough = elim (cases_lt (place seen n) (length seen)) [
  | inl listed ↦ stays g n seen fine listed
  | inr fresh ↦ absurd (omega (arith, few (length g.instances) (seen ++ n ∷ []) (once-end seen n fine.once fresh) (below-end (length g.instances) seen n fine.below lt), length-append seen (n ∷ [])))
]
visit-closes g range (suc depth) n seen lt fine enough =
    let xs = instance_names (slices_of g.instances n) in
    let out = visit_each (visit_at depth g) xs (seen ++ n ∷ []) in
    listed-closes g n seen out (is_listed seen n) refl fine (λ fresh.
    enters g n seen out (each-closes g depth (visit_at depth g) (visit-closes g range depth) xs (seen ++ n ∷ []) (range n lt)
    (record { once = once-end seen n fine.once fresh; below = below-end (length g.instances) seen n fine.below lt }) (omega (arith, length-append seen (n ∷ [])))))

-- the order has what the roots and the listed instances name, each once, and each is the place of an instance
pub record IsOrder (g : Graph) (ns : List ℕ) : Type 0 where
  pub holds : Holds ns g
  pub below : AreBelow (length g.instances) ns

pub order-is : (g : Graph) → IsSound g → IsOrder g (order g)
unfolding order
order-is g sound =
    let c = each-closes g most (visit_at most g) (visit-closes g (range-of g sound) most) (names_of g.roots) [] sound.roots.names (record { once = tt; below = tt }) (omega (arith, sound.few)) in
    record {
      holds = record { once = c.fine.once; roots = c.visited; instances = λ n lt. elim (c.closed n lt) [ inl no_name ↦ absurd (omega arith) | inr listed ↦ listed ] };
      below = c.fine.below;
    }
