-- To be the same but for names goes on from graph to graph.
use Rattle.std.proofs.Common.{ℕ, zero, suc, ◌<◌, ◌≡◌, ◌⊎◌, Bool, true, false, List, [], ◌∷◌, length, map, get_or, refl, sym, ap, ◌∙◌, subst, arith, inl, inr}
use Rattle.std.proofs.lemmas.Bool.{cases_eq, cases_lt, ltb-true, ltb-false}
use Rattle.std.proofs.lemmas.List.{length-map, get_or-map}
use Rattle.ice_types.specs.declared.declarations.Shape.{Shape}
use Rattle.ice_types.specs.Tables.{Tables}
use Rattle.ice_encoding.specs.Graph.{Slice, Graph}
use Rattle.ice_encoding.specs.Flags.{Reach}
use Rattle.ice_encoding.specs.Names.{names_of, instance_names, renamed_slice}
use Rattle.ice_encoding.specs.Instances.{slices_of}
use Rattle.ice_encoding.specs.Visiting.{place, is_listed}
use Rattle.ice_encoding.specs.SameGraph.{AreListed, HasEachOnce, numbered, Holds, Same, Spells}
use Rattle.ice_encoding.proofs.Graphs.{numbered_apart}
use Rattle.graph_arena.proofs.Closed.{place-head, place-tail, place-le}
use Rattle.graph_arena.proofs.Keeping.{members-renamed, instance-renamed}
use Rattle.graph_laws.proofs.Places.{get-place, place-once}
use Rattle.graph_laws.proofs.Renumbered.{instance-numbered, renumbered}

-- ---- places of the names themselves

pub place-get : (ns : List ℕ) (i : ℕ) → HasEachOnce ns → i < length ns → place ns (get_or ns i 0) ≡ i
place-get [] i once lt = absurd (omega arith)
place-get (m ∷ ns) zero once lt = place-head m ns m refl
place-get (m ∷ ns) (suc i) once lt =
    let here = place-get ns i once.1 (omega arith) in
    elim (cases_eq m (get_or ns i 0)) [
      | inl e ↦ absurd (omega (arith, here, once.0, ap (place ns) e))
      | inr apart ↦ place-tail m ns (get_or ns i 0) apart ∙ ap suc here
    ]

-- ---- lists that are part of others

abbrev pub IsIn : List ℕ → ℕ → Type 0
IsIn ns n = place ns n < length ns

in-head : (m : ℕ) (ns : List ℕ) (n : ℕ) → m ≡ n → IsIn (m ∷ ns) n
in-head m ns n e = omega (arith, place-head m ns n e)

in-tail : (m : ℕ) (ns : List ℕ) (n : ℕ) → IsIn ns n → IsIn (m ∷ ns) n
in-tail m ns n lt = elim (cases_eq m n) [ inl e ↦ in-head m ns n e | inr apart ↦ omega (arith, place-tail m ns n apart, lt) ]

in-split : (m : ℕ) (ns : List ℕ) (n : ℕ) → IsIn (m ∷ ns) n → (m ≡ n) ⊎ IsIn ns n
in-split m ns n lt = elim (cases_eq m n) [ inl e ↦ inl e | inr apart ↦ inr (omega (arith, place-tail m ns n apart, lt)) ]

-- each name of the second list is in the first
abbrev pub Within : List ℕ → List ℕ → Type 0
Within ns ms = (n : ℕ) → IsIn ms n → IsIn ns n

pub listed-within : (ns ms : List ℕ) → Within ns ms → AreListed ns ms
listed-within ns [] h = tt
listed-within ns (m ∷ ms) h = (h m (in-head m ms m refl), listed-within ns ms (λ n lt. h n (in-tail m ms n lt)))

not-in : (ns ms : List ℕ) (n : ℕ) → Within ns ms → place ns n ≡ length ns → place ms n ≡ length ms
not-in ns ms n h e = elim (cases_lt (place ms n) (length ms)) [ inl lt ↦ absurd (omega (arith, h n lt, e)) | inr le ↦ omega (arith, le, place-le ms n) ]

-- ---- the names that two lists share

abbrev shared : List ℕ → List ℕ → List ℕ
shared [] other = []
shared (n ∷ ns) other = elim (is_listed other n) [ true ↦ n ∷ shared ns other | false ↦ shared ns other ]

-- by whether the first is in the other, too
module _ (ns other : List ℕ) (m : ℕ) where
  left_by : (b : Bool) → is_listed other m ≡ b → Within ns (shared ns other) → Within (m ∷ ns) (elim b [ true ↦ m ∷ shared ns other | false ↦ shared ns other ])
  left_by true e h n lt = elim (in-split m (shared ns other) n lt) [ inl same ↦ in-head m ns n same | inr more ↦ in-tail m ns n (h n more) ]
  left_by false e h n lt = in-tail m ns n (h n lt)

  right_by : (b : Bool) → is_listed other m ≡ b → Within other (shared ns other) → Within other (elim b [ true ↦ m ∷ shared ns other | false ↦ shared ns other ])
  right_by true e h n lt = elim (in-split m (shared ns other) n lt) [ inl same ↦ subst (IsIn other) same (ltb-true (place other m) (length other) e) | inr more ↦ h n more ]
  right_by false e h n lt = h n lt

  both_by : (b : Bool) → is_listed other m ≡ b → ((n : ℕ) → IsIn ns n → IsIn other n → IsIn (shared ns other) n)
      → (n : ℕ) → IsIn (m ∷ ns) n → IsIn other n → IsIn (elim b [ true ↦ m ∷ shared ns other | false ↦ shared ns other ]) n
  both_by true e h n lt there = elim (in-split m ns n lt) [ inl same ↦ in-head m (shared ns other) n same | inr more ↦ in-tail m (shared ns other) n (h n more there) ]
  both_by false e h n lt there = elim (in-split m ns n lt) [
    | inl same ↦ absurd (omega (arith, ltb-false (place other m) (length other) e, subst (IsIn other) (sym same) there))
    | inr more ↦ h n more there
  ]

  once_by : (b : Bool) → Within ns (shared ns other) → place ns m ≡ length ns → HasEachOnce (shared ns other) → HasEachOnce (elim b [ true ↦ m ∷ shared ns other | false ↦ shared ns other ])
  once_by true h e once = (not-in ns (shared ns other) m h e, once)
  once_by false h e once = once

shared-left : (ns other : List ℕ) → Within ns (shared ns other)
shared-left [] other n lt = lt
shared-left (m ∷ ns) other n lt = left_by ns other m (is_listed other m) refl (shared-left ns other) n lt

shared-right : (ns other : List ℕ) → Within other (shared ns other)
shared-right [] other n lt = absurd (omega (arith, lt))
shared-right (m ∷ ns) other n lt = right_by ns other m (is_listed other m) refl (shared-right ns other) n lt

shared-both : (ns other : List ℕ) (n : ℕ) → IsIn ns n → IsIn other n → IsIn (shared ns other) n
shared-both [] other n lt there = lt
shared-both (m ∷ ns) other n lt there = both_by ns other m (is_listed other m) refl (shared-both ns other) n lt there

shared-once : (ns other : List ℕ) → HasEachOnce ns → HasEachOnce (shared ns other)
shared-once [] other once = tt
shared-once (m ∷ ns) other once = once_by ns other m (is_listed other m) (shared-left ns other) once.0 (shared-once ns other once.1)

shared-listed : (ns other xs : List ℕ) → AreListed ns xs → AreListed other xs → AreListed (shared ns other) xs
shared-listed ns other [] p q = tt
shared-listed ns other (x ∷ xs) p q = (shared-both ns other x p.0 q.0, shared-listed ns other xs p.1 q.1)

shared-holds : (g : Graph) (ns other : List ℕ) → Holds ns g → Holds other g → Holds (shared ns other) g
shared-holds g ns other p q = record {
  once = shared-once ns other p.once;
  roots = shared-listed ns other (names_of g.roots) p.roots q.roots;
  instances = λ n lt. shared-listed ns other (instance_names (slices_of g.instances n)) (p.instances n (shared-left ns other n lt)) (q.instances n (shared-right ns other n lt));
}

-- ---- names of one graph that stand for those of another

module _ (k g : Graph) (same : Same k g) (ns : List ℕ) (part : Within same.left ns) (holds : Holds ns k) where
  abbrev a : List ℕ
  a = same.left

  abbrev b : List ℕ
  b = same.right

  -- the name that stands in its place
  abbrev to : ℕ → ℕ
  to n = get_or b (place a n) 0

  counts : length a ≡ length b
  counts = sym (length-map {A = ℕ} {B = List Slice} a (λ n. map (renamed_slice (place a)) (slices_of k.instances n)))
      ∙ ap (λ (x : Graph). length x.instances) same.equal
      ∙ length-map {A = ℕ} {B = List Slice} b (λ n. map (renamed_slice (place b)) (slices_of g.instances n))

  place-to : (n : ℕ) → IsIn a n → place b (to n) ≡ place a n
  place-to n lt = place-get b (place a n) same.right_holds.once (omega (arith, lt, counts))

  to-once : (m n : ℕ) → IsIn a m → IsIn a n → to m ≡ to n → m ≡ n
  to-once m n m-in n-in e = place-once a m n m-in n-in (sym (place-to m m-in) ∙ ap (place b) e ∙ place-to n n-in)

  place-moved : (ms : List ℕ) (n : ℕ) → AreListed a ms → IsIn a n → place (map to ms) (to n) ≡ place ms n
  place-moved [] n listed n-in = refl
  place-moved (m ∷ ms) n listed n-in = elim (cases_eq m n) [
    | inl e ↦ place-head (to m) (map to ms) (to n) (ap to e) ∙ sym (place-head m ms n e)
    | inr apart ↦ place-tail (to m) (map to ms) (to n) (λ e. apart (to-once m n listed.0 n-in e)) ∙ ap suc (place-moved ms n listed.1 n-in) ∙ sym (place-tail m ms n apart)
  ]

  once-moved : (ms : List ℕ) → AreListed a ms → HasEachOnce ms → HasEachOnce (map to ms)
  once-moved [] listed once = tt
  once-moved (m ∷ ms) listed once = (place-moved ms m listed.1 listed.0 ∙ once.0 ∙ sym (length-map {A = ℕ} {B = ℕ} ms to), once-moved ms listed.1 once.1)

  listed : AreListed a ns
  listed = listed-within a ns part

  abbrev moved : List ℕ
  moved = map to ns

  in-moved : (n : ℕ) → IsIn ns n → IsIn moved (to n)
  in-moved n lt = omega (arith, place-moved ns n listed (part n lt), lt, length-map {A = ℕ} {B = ℕ} ns to)

  places-moved : (ms : List ℕ) → AreListed a ms → map (place b) (map to ms) ≡ map (place a) ms
  places-moved [] h = refl
  places-moved (m ∷ ms) h = λ i. place-to m h.0 i ∷ places-moved ms h.1 i

  moved-listed : (ms : List ℕ) → AreListed a ms → AreListed b (map to ms)
  moved-listed [] h = tt
  moved-listed (m ∷ ms) h = (omega (arith, place-to m h.0, h.0, counts), moved-listed ms h.1)

  heads : (x y : ℕ) (xs ys : List ℕ) → x ∷ xs ≡ y ∷ ys → (x ≡ y) × (xs ≡ ys)
  heads x y xs ys e = (cc, cc)

  no_more : {C : Type 0} (x : ℕ) (xs : List ℕ) → x ∷ xs ≡ [] → C
  no_more x xs e = absurd cc

  -- what stands in the places of listed names is listed
  listed-over : (xs ys : List ℕ) → map (place a) xs ≡ map (place b) ys → AreListed ns xs → AreListed b ys → AreListed moved ys
  listed-over xs [] e p q = tt
  listed-over [] (y ∷ ys) e p q = no_more (place b y) (map (place b) ys) (sym e)
  listed-over (x ∷ xs) (y ∷ ys) e p q =
      let parts = heads (place a x) (place b y) (map (place a) xs) (map (place b) ys) e in
      let is : to x ≡ y = ap (λ (i : ℕ). get_or b i 0) parts.0 ∙ get-place b y 0 q.0 in
      (subst (IsIn moved) is (in-moved x p.0), listed-over xs ys parts.1 p.1 q.1)

  roots-moved : AreListed moved (names_of g.roots)
  roots-moved = listed-over (names_of k.roots) (names_of g.roots)
      (sym (members-renamed (place a) k.roots) ∙ ap (λ (x : Graph). names_of x.roots) same.equal ∙ members-renamed (place b) g.roots) holds.roots same.right_holds.roots

  -- the instance of a name is that of the name in its place
  instance-moved : (n : ℕ) → IsIn ns n → map (place a) (instance_names (slices_of k.instances n)) ≡ map (place b) (instance_names (slices_of g.instances (to n)))
  instance-moved n lt =
      let there : IsIn b (to n) = omega (arith, place-to n (part n lt), part n lt, counts) in
      sym (instance-renamed (place a) (slices_of k.instances n))
      ∙ ap instance_names (sym (instance-numbered a k n (part n lt)) ∙ ap (λ (x : Graph). slices_of x.instances (place a n)) same.equal ∙ ap (slices_of (numbered b g).instances) (sym (place-to n (part n lt))) ∙ instance-numbered b g (to n) there)
      ∙ instance-renamed (place b) (slices_of g.instances (to n))

  to-named : (n : ℕ) → IsIn ns n → AreListed moved (instance_names (slices_of g.instances (to n)))
  to-named n lt =
      listed-over (instance_names (slices_of k.instances n)) (instance_names (slices_of g.instances (to n))) (instance-moved n lt) (holds.instances n lt)
      (same.right_holds.instances (to n) (omega (arith, place-to n (part n lt), part n lt, counts)))

  named : (n : ℕ) → IsIn moved n → AreListed moved (instance_names (slices_of g.instances n))
  named n lt =
      let i : ℕ = place moved n in
      let i-in : i < length ns = omega (arith, lt, length-map {A = ℕ} {B = ℕ} ns to) in
      let m : ℕ = get_or ns i 0 in
      let m-in : IsIn ns m = omega (arith, place-get ns i holds.once i-in, i-in) in
      let is : to m ≡ n = sym (get_or-map to ns i 0 0 i-in) ∙ get-place moved n 0 lt in
      subst (λ (x : ℕ). AreListed moved (instance_names (slices_of g.instances x))) is (to-named m m-in)

  pub moved-holds : Holds moved g
  moved-holds = record { once = once-moved ns listed holds.once; roots = roots-moved; instances = named }

  pub moved-is : numbered ns k ≡ numbered moved g
  moved-is =
      sym (renumbered a k same.left_holds ns listed) ∙ ap (λ (l : List ℕ). numbered l (numbered a k)) (sym (places-moved ns listed))
      ∙ ap (numbered (map (place b) moved)) same.equal ∙ renumbered b g same.right_holds moved (moved-listed ns listed)

pub same_back : (g h : Graph) → Same g h → Same h g
same_back g h s = record { left = s.right; right = s.left; left_holds = s.right_holds; right_holds = s.left_holds; equal = sym s.equal }

-- two graphs that are the same as a third are the same
pub same_both : (k g h : Graph) → Same k g → Same k h → Same g h
same_both k g h p q =
    let ns : List ℕ = shared p.left q.left in
    let holds : Holds ns k = shared-holds k p.left q.left p.left_holds q.left_holds in
    record {
      left = moved k g p ns (shared-left p.left q.left) holds;
      right = moved k h q ns (shared-right p.left q.left) holds;
      left_holds = moved-holds k g p ns (shared-left p.left q.left) holds;
      right_holds = moved-holds k h q ns (shared-right p.left q.left) holds;
      equal = sym (moved-is k g p ns (shared-left p.left q.left) holds) ∙ moved-is k h q ns (shared-right p.left q.left) holds;
    }

pub spelled_are_same : (t : Tables) (reach : Reach) (shape : Shape) (bytes : List ℕ) (g h : Graph) → Spells t reach shape bytes g → Spells t reach shape bytes h → Same g h
spelled_are_same t reach shape bytes g h (k, k_is, p) (l, l_is, q) =
    let one : k ≡ l = numbered_apart t reach shape bytes k l k_is l_is in
    same_both k g h p (subst (λ (x : Graph). Same x h) (sym one) q)
