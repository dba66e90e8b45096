-- Names once each, in order of first use: each name is among them, and to visit them is to visit all.
use Rattle.std.proofs.Common.{ℕ, zero, suc, ◌+◌, ◌<◌, ◌≤◌, ◌≡◌, ◌⊎◌, Bool, true, false, List, [], ◌∷◌, ◌++◌, length, refl, sym, ap, ◌∙◌, subst, arith, inl, inr}
use Rattle.std.proofs.lemmas.Bool.{cases_lt, cases_eq, false≢true, ltb-true, lt-ltb, le-ltb}
use Rattle.std.proofs.lemmas.List.{length-append, append_cancel_left}
use Rattle.ice_encoding.specs.Graph.{Graph}
use Rattle.ice_encoding.specs.Names.{instance_names}
use Rattle.ice_encoding.specs.Instances.{slices_of}
use Rattle.ice_encoding.specs.Visiting.{place, is_listed, visit_each, visit_at}
use Rattle.ice_encoding.specs.SameGraph.{AreListed}
use Rattle.graph_arena.specs.Arena.{AreBelow}
use Rattle.ice_encoding.specs.CanonicalGraph.{each_once}
use Rattle.graph_arena.proofs.Closed.{place-head, place-tail}
use Rattle.graph_laws.proofs.Upto.{upto, length-upto, upto-one, front-upto, place-upto, unlisted-upto, each-grows, visit-grows, parts}

abbrev IsIn : List ℕ → ℕ → Type 0
IsIn table n = place table n < length table

abbrev Each : (ℕ → Type 0) → List ℕ → Type 0
Each P [] = Unit {0}
Each P (n ∷ ns) = P n × Each P ns

Each-map : (P Q : ℕ → Type 0) → ((n : ℕ) → P n → Q n) → (ns : List ℕ) → Each P ns → Each Q ns
Each-map P Q f [] p = tt
Each-map P Q f (n ∷ ns) p = (f n p.0, Each-map P Q f ns p.1)

IsIn-cons : (m : ℕ) (table : List ℕ) (n : ℕ) → IsIn table n → IsIn (m ∷ table) n
IsIn-cons m table n lt = elim (cases_eq m n) [ inl e ↦ omega (arith, place-head m table n e) | inr apart ↦ omega (arith, place-tail m table n apart) ]

IsIn-split : (m : ℕ) (table : List ℕ) (n : ℕ) → IsIn (m ∷ table) n → (m ≡ n) ⊎ IsIn table n
IsIn-split m table n lt = elim (cases_eq m n) [ inl e ↦ inl e | inr apart ↦ inr (omega (arith, place-tail m table n apart)) ]

abbrev Seen : List ℕ → List ℕ → ℕ → Type 0
Seen seen once n = IsIn seen n ⊎ IsIn once n

once-cases : (seen : List ℕ) (n : ℕ) (ns once once' : List ℕ) (b : Bool) → is_listed seen n ≡ b → Each (Seen seen once) ns → Each (Seen (n ∷ seen) once') ns → Each (Seen seen (elim b [ true ↦ once | false ↦ n ∷ once' ])) (n ∷ ns)
once-cases seen n ns once once' true e same new = (inl (ltb-true (place seen n) (length seen) e), same)
once-cases seen n ns once once' false e same new =
    let head : (m : ℕ) → n ≡ m → IsIn (n ∷ once') m = λ m same_name. omega (arith, place-head n once' m same_name) in (
      inr (head n refl),
      Each-map (Seen (n ∷ seen) once') (Seen seen (n ∷ once')) (λ m p. elim p [
        | inl earlier ↦ elim (IsIn-split n seen m earlier) [ inl same_name ↦ inr (head m same_name) | inr seen_it ↦ inl seen_it ]
        | inr later ↦ inr (IsIn-cons n once' m later)
      ]) ns new,
    )

each_once-all : (seen ns : List ℕ) → Each (Seen seen (each_once seen ns)) ns
each_once-all seen [] = tt
each_once-all seen (n ∷ ns) = once-cases seen n ns (each_once seen ns) (each_once (n ∷ seen) ns) (is_listed seen n) refl (each_once-all seen ns) (each_once-all (n ∷ seen) ns)

all-listed : (once ns : List ℕ) → Each (Seen [] once) ns → AreListed once ns
all-listed once [] p = tt
all-listed once (n ∷ ns) p = (elim p.0 [ inl no_name ↦ absurd (omega arith) | inr here ↦ here ], all-listed once ns p.1)

pub once-listed : (ns : List ℕ) → AreListed (each_once [] ns) ns
once-listed ns = all-listed (each_once [] ns) ns (each_once-all [] ns)

below-cases : (limit n : ℕ) (once once' : List ℕ) (b : Bool) → n < limit → AreBelow limit once → AreBelow limit once' → AreBelow limit (elim b [ true ↦ once | false ↦ n ∷ once' ])
below-cases limit n once once' true lt p q = p
below-cases limit n once once' false lt p q = (lt, q)

pub once-below : (limit : ℕ) (seen ns : List ℕ) → AreBelow limit ns → AreBelow limit (each_once seen ns)
once-below limit seen [] p = tt
once-below limit seen (n ∷ ns) p = below-cases limit n (each_once seen ns) (each_once (n ∷ seen) ns) (is_listed seen n) p.0 (once-below limit seen ns p.1) (once-below limit (n ∷ seen) ns p.1)

-- ---- visits of what is listed, and of what is not

pub false-elim : {A : Type 0} (b : Bool) (x y : A) → b ≡ false → (elim b as (λ k. A) [ true ↦ x | false ↦ y ]) ≡ y
false-elim true x y e = absurd (false≢true (sym e))
false-elim false x y e = refl

pub true-elim : {A : Type 0} (b : Bool) (x y : A) → b ≡ true → (elim b as (λ k. A) [ true ↦ x | false ↦ y ]) ≡ x
true-elim true x y e = refl
true-elim false x y e = absurd (false≢true e)

unlisted : (i n : ℕ) → i ≤ n → is_listed (upto i) n ≡ false
unlisted i n le = le-ltb (place (upto i) n) (length (upto i)) (unlisted-upto i n le)

is-listed : (i n : ℕ) → n < i → is_listed (upto i) n ≡ true
is-listed i n lt = lt-ltb (place (upto i) n) (length (upto i)) (omega (arith, place-upto i n lt, length-upto i))

pub listed-stays : (depth : ℕ) (k : Graph) (n i : ℕ) → n < i → visit_at depth k n (upto i) ≡ upto i
listed-stays zero k n i lt = refl
listed-stays (suc depth) k n i lt = true-elim (is_listed (upto i) n) (upto i) (visit_each (visit_at depth k) (instance_names (slices_of k.instances n)) (upto i ++ n ∷ [])) (is-listed i n lt)

pub entered : (depth : ℕ) (k : Graph) (n i j : ℕ) → i ≤ n → visit_at (suc depth) k n (upto i) ≡ upto j → visit_each (visit_at depth k) (instance_names (slices_of k.instances n)) (upto i ++ n ∷ []) ≡ upto j
entered depth k n i j le e = sym (false-elim (is_listed (upto i) n) (upto i) (visit_each (visit_at depth k) (instance_names (slices_of k.instances n)) (upto i ++ n ∷ [])) (unlisted i n le)) ∙ e

-- what is appended to the numbers is the next number
pub record Next (n i j : ℕ) : Type 0 where
  pub is : n ≡ i
  pub below : i < j

pub next : (depth : ℕ) (k : Graph) (n i j : ℕ) → visit_each (visit_at depth k) (instance_names (slices_of k.instances n)) (upto i ++ n ∷ []) ≡ upto j → Next n i j
next depth k n i j e =
    let more = each-grows (visit_at depth k) (visit-grows depth k) (instance_names (slices_of k.instances n)) (upto i ++ n ∷ []) in
    let front = front-upto (upto i ++ n ∷ []) more.0 j (sym more.1 ∙ e) in
    let len : length (upto i ++ n ∷ []) ≡ suc i = omega (arith, length-append (upto i) (n ∷ []), length-upto i) in
    let same : n ∷ [] ≡ i ∷ [] = append_cancel_left (upto i) (n ∷ []) (i ∷ []) (front.0 ∙ ap upto len) in
    record { is = cc; below = omega (arith, front.1, len) }

-- as deep as instances may still begin
abbrev pub Deep : ℕ → ℕ → ℕ → Type 0
Deep limit depth i = limit ≤ depth + i

pub enters-at : (k : Graph) (limit depth n i j : ℕ) → n < limit → Deep limit depth i → visit_at depth k n (upto i) ≡ upto j → n < j
enters-at k limit zero n i j lt deep e = omega (arith, upto-one i j e)
enters-at k limit (suc depth) n i j lt deep e = elim (cases_lt n i) [
  | inl less ↦ omega (arith, upto-one i j (sym (listed-stays (suc depth) k n i less) ∙ e))
  | inr le ↦ (let x = next depth k n i j (entered depth k n i j le e) in omega (arith, x.is, x.below))
]

-- ---- to visit each name once is to visit them all

below-at : (i : ℕ) (ns : List ℕ) (n : ℕ) → IsIn ns n → AreBelow i ns → n < i
below-at i [] n lt p = absurd (omega arith)
below-at i (m ∷ ns) n lt p = elim (IsIn-split m ns n lt) [ inl e ↦ subst (λ (k : ℕ). k < i) e p.0 | inr more ↦ below-at i ns n more p.1 ]

below-more : (i j : ℕ) → i ≤ j → (ns : List ℕ) → AreBelow i ns → AreBelow j ns
below-more i j le [] p = tt
below-more i j le (n ∷ ns) p = (omega (arith, p.0, le), below-more i j le ns p.1)

module _ (k : Graph) (limit depth : ℕ) where
  run-cases : (seen : List ℕ) (n : ℕ) (once once' : List ℕ) (i mid j : ℕ) (b : Bool) → is_listed seen n ≡ b → visit_at depth k n (upto i) ≡ upto mid
      → (IsIn seen n → visit_each (visit_at depth k) once (upto i) ≡ upto j) → visit_each (visit_at depth k) once' (upto mid) ≡ upto j → visit_each (visit_at depth k) (elim b [ true ↦ once | false ↦ n ∷ once' ]) (upto i) ≡ upto j
  run-cases seen n once once' i mid j true e first same new = same (ltb-true (place seen n) (length seen) e)
  run-cases seen n once once' i mid j false e first same new = ap (visit_each (visit_at depth k) once') first ∙ new

  pub once-run : (seen ns : List ℕ) (i j : ℕ) → Deep limit depth i → AreBelow i seen → AreBelow limit ns → visit_each (visit_at depth k) ns (upto i) ≡ upto j → visit_each (visit_at depth k) (each_once seen ns) (upto i) ≡ upto j
  once-run seen [] i j deep below in_ run = run
  once-run seen (n ∷ ns) i j deep below in_ run =
      let p = parts (visit_at depth k) (visit-grows depth k) (n ∷ []) ns i j run in
      run-cases seen n (each_once seen ns) (each_once (n ∷ seen) ns) i p.mid j (is_listed seen n) refl p.first
      (λ here. once-run seen ns i j deep below in_.1 (ap (visit_each (visit_at depth k) ns) (sym (listed-stays depth k n i (below-at i seen n here below))) ∙ run))
      (once-run (n ∷ seen) ns p.mid j (omega (arith, deep, p.low)) (enters-at k limit depth n i p.mid in_.0 deep p.first, below-more i p.mid p.low seen below) in_.1 p.second)
