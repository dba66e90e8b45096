-- What listing a place changes.
use Rattle.std.proofs.Common.{◌≡◌, ◌≢◌, ℕ, zero, suc, ◌+◌, ◌<◌, ◌≤◌, Bool, true, false, ◌||◌, nat_eq, nat_lt, if◌then◌else◌, List, [], ◌∷◌, ◌++◌, length, replicate, slice_set, slice_index_or, Ok, refl, sym, ap, ◌∙◌, subst, inl, inr, arith}
use Rattle.std.proofs.lemmas.Bool.{cases_eq, cases_lt, false≢true, or_cases, eq-eqb, ne_eqb, lt-ltb, le-ltb}
use Rattle.std.proofs.lemmas.List.{get_or-set_same, get_or-set_other, length-set}
use Rattle.ice_encoding.specs.Visiting.{place, is_listed}
use Rattle.graph_arena.specs.Listing.{Lists, Marks}

suc-less : (k l : ℕ) → nat_lt (suc k) (suc l) ≡ nat_lt k l
suc-less k l = elim (cases_lt k l) [
  | inl lt ↦ lt-ltb (suc k) (suc l) (omega (arith, lt)) ∙ sym (lt-ltb k l lt)
  | inr le ↦ le-ltb (suc k) (suc l) (omega (arith, le)) ∙ sym (le-ltb k l le)
]

place-less : (b : Bool) (k l : ℕ) → nat_lt (if b then 0 else suc k) (suc l) ≡ (b || nat_lt k l)
place-less true k l = lt-ltb 0 (suc l) (omega arith)
place-less false k l = suc-less k l

-- it is the first, or behind that
pub listed-cons : (m : ℕ) (ms : List ℕ) (n : ℕ) → is_listed (m ∷ ms) n ≡ (nat_eq m n || is_listed ms n)
listed-cons m ms n = place-less (nat_eq m n) (place ms n) (length ms)

or_false : (b : Bool) → (b || false) ≡ b
or_false true = refl
or_false false = refl

or_true : (b : Bool) → (b || true) ≡ true
or_true true = refl
or_true false = refl

or_apart : (a b c : Bool) → (a || (b || c)) ≡ ((a || b) || c)
or_apart true b c = refl
or_apart false b c = refl

listed-end : (ms : List ℕ) (n m : ℕ) → is_listed (ms ++ n ∷ []) m ≡ (is_listed ms m || nat_eq n m)
listed-end [] n m = listed-cons n [] m ∙ or_false (nat_eq n m)
listed-end (k ∷ ms) n m =
    listed-cons k (ms ++ n ∷ []) m ∙ ap (λ (b : Bool). nat_eq k m || b) (listed-end ms n m)
    ∙ or_apart (nat_eq k m) (is_listed ms m) (nat_eq n m) ∙ ap (λ (b : Bool). b || nat_eq n m) (sym (listed-cons k ms m))

pub listed-new : (ms : List ℕ) (n : ℕ) → is_listed (ms ++ n ∷ []) n ≡ true
listed-new ms n = listed-end ms n n ∙ ap (λ (b : Bool). is_listed ms n || b) (eq-eqb n n refl) ∙ or_true (is_listed ms n)

pub listed-other : (ms : List ℕ) (n m : ℕ) → n ≢ m → is_listed (ms ++ n ∷ []) m ≡ is_listed ms m
listed-other ms n m apart = listed-end ms n m ∙ ap (λ (b : Bool). is_listed ms m || b) (ne_eqb n m apart) ∙ or_false (is_listed ms m)

listed-either : (m : ℕ) (ms : List ℕ) (n : ℕ) (b : Bool) → is_listed ms n ≡ b → nat_eq m n ≡ true → is_listed (m ∷ ms) n ≡ true
listed-either m ms n b is here = listed-cons m ms n ∙ ap (λ (c : Bool). c || is_listed ms n) here

-- what is listed stays listed
pub listed-stays : (ms more : List ℕ) (n : ℕ) → is_listed ms n ≡ true → is_listed (ms ++ more) n ≡ true
listed-stays [] more n listed = absurd (false≢true listed)
listed-stays (m ∷ ms) more n listed = elim (or_cases (nat_eq m n) (is_listed ms n) (sym (listed-cons m ms n) ∙ listed)) [
  | inl here ↦ listed-either m (ms ++ more) n (is_listed (ms ++ more) n) refl here
  | inr behind ↦ listed-cons m (ms ++ more) n ∙ ap (λ (b : Bool). nat_eq m n || b) (listed-stays ms more n behind) ∙ or_true (nat_eq m n)
]

-- ---- the weight of the places below a count that are not listed

abbrev unlisted : Bool → ℕ → ℕ
unlisted true k = 0
unlisted false k = k

abbrev pub weight : (ℕ → ℕ) → ℕ → List ℕ → ℕ
weight w zero listed = 0
weight w (suc n) listed = unlisted (is_listed listed n) (w n) + weight w n listed

unlisted-falls : (a b : Bool) (k : ℕ) → (a ≡ true → b ≡ true) → unlisted b k ≤ unlisted a k
unlisted-falls true true k stays = omega arith
unlisted-falls true false k stays = absurd (false≢true (stays refl))
unlisted-falls false true k stays = omega arith
unlisted-falls false false k stays = omega arith

pub weight-falls : (w : ℕ → ℕ) (count : ℕ) (ms more : List ℕ) → weight w count (ms ++ more) ≤ weight w count ms
weight-falls w zero ms more = omega arith
weight-falls w (suc n) ms more = omega (arith, weight-falls w n ms more, unlisted-falls (is_listed ms n) (is_listed (ms ++ more) n) (w n) (listed-stays ms more n))

weight-same : (w : ℕ → ℕ) (count : ℕ) (ms : List ℕ) (n : ℕ) → count ≤ n → weight w count (ms ++ n ∷ []) ≡ weight w count ms
weight-same w zero ms n le = refl
weight-same w (suc m) ms n le =
    let here : unlisted (is_listed (ms ++ n ∷ []) m) (w m) ≡ unlisted (is_listed ms m) (w m) = ap (λ (b : Bool). unlisted b (w m)) (listed-other ms n m (λ e. absurd (omega (arith, le, e)))) in
    omega (arith, here, weight-same w m ms n (omega (arith, le)))

weight-at : (w : ℕ → ℕ) (ms : List ℕ) (n m : ℕ) → n ≡ m → is_listed ms n ≡ false → weight w (suc m) (ms ++ n ∷ []) + w n ≡ weight w (suc m) ms
weight-at w ms n m same new =
    let now : unlisted (is_listed (ms ++ n ∷ []) m) (w m) ≡ 0 = ap (λ (b : Bool). unlisted b (w m)) (subst (λ (k : ℕ). is_listed (ms ++ n ∷ []) k ≡ true) same (listed-new ms n)) in
    let then_it : unlisted (is_listed ms m) (w m) ≡ w m = ap (λ (b : Bool). unlisted b (w m)) (subst (λ (k : ℕ). is_listed ms k ≡ false) same new) in
    omega (arith, now, then_it, weight-same w m ms n (omega (arith, same)), ap w same)

pub weight-less : (w : ℕ → ℕ) (count : ℕ) (ms : List ℕ) (n : ℕ) → n < count → is_listed ms n ≡ false → weight w count (ms ++ n ∷ []) + w n ≡ weight w count ms
weight-less w zero ms n lt new = absurd (omega (arith, lt))
weight-less w (suc m) ms n lt new = elim (cases_eq n m) [
  | inl same ↦ weight-at w ms n m same new
  | inr apart ↦ (
      let here : unlisted (is_listed (ms ++ n ∷ []) m) (w m) ≡ unlisted (is_listed ms m) (w m) = ap (λ (b : Bool). unlisted b (w m)) (listed-other ms n m apart) in
      omega (arith, here, weight-less w m ms n (omega (arith, lt, apart)) new))
]

-- how many places are not listed
abbrev pub fresh : ℕ → List ℕ → ℕ
fresh count listed = weight (λ n. 1) count listed

one-most : (b : Bool) → unlisted b 1 ≤ 1
one-most true = omega arith
one-most false = omega arith

pub fresh-most : (count : ℕ) (ms : List ℕ) → fresh count ms ≤ count
fresh-most zero ms = omega arith
fresh-most (suc n) ms = omega (arith, one-most (is_listed ms n), fresh-most n ms)

pub all-listed : (count : ℕ) (ms : List ℕ) (n : ℕ) → n < count → fresh count ms ≤ 0 → is_listed ms n ≡ true
all-listed count ms n lt none_left = by_test (is_listed ms n) refl
  where
    by_test : (b : Bool) → is_listed ms n ≡ b → is_listed ms n ≡ true
    by_test true is = is
    by_test false is = absurd (omega (arith, weight-less (λ n. 1) count ms n lt is, none_left))

-- ---- marks

pub marks-fresh : (count : ℕ) (marks : List Bool) → marks ≡ replicate count false → Marks marks []
marks-fresh count marks is = λ n lt.
    ap (λ (l : List Bool). slice_index_or l n false) is ∙ get-fresh count n
  where
    get-fresh : (count n : ℕ) → slice_index_or (replicate count false) n false ≡ false
    get-fresh zero n = refl
    get-fresh (suc count) zero = refl
    get-fresh (suc count) (suc n) = get-fresh count n

pub marks-set : (marks : List Bool) (old new : List ℕ) (n : ℕ) → Marks marks old → n < length marks → new ≡ old ++ n ∷ [] → Marks (slice_set marks n true) new
marks-set marks old new n marked lt is = λ m within. subst (λ (l : List ℕ). slice_index_or (slice_set marks n true) m false ≡ is_listed l m) (sym is) (at m within)
  where
    at : (m : ℕ) → m < length (slice_set marks n true) → slice_index_or (slice_set marks n true) m false ≡ is_listed (old ++ n ∷ []) m
    at m within = elim (cases_eq m n) [
      | inl same ↦ subst (λ (k : ℕ). slice_index_or (slice_set marks n true) k false ≡ is_listed (old ++ n ∷ []) k) (sym same) (get_or-set_same marks n true false lt ∙ sym (listed-new old n))
      | inr apart ↦ get_or-set_other marks n m true false apart ∙ marked m (omega (arith, within, length-set marks n true)) ∙ sym (listed-other old n m (λ e. apart (sym e)))
    ]

-- ---- by the answer

pub new-is : (b : Bool) (n : ℕ) (old new : List ℕ) → b ≡ true → Lists n old new (Ok b) → (is_listed old n ≡ false) × (new ≡ old ++ n ∷ [])
new-is true n old new is h = h
new-is false n old new is h = absurd (false≢true is)

pub same-is : (b : Bool) (n : ℕ) (old new : List ℕ) → b ≡ false → Lists n old new (Ok b) → (is_listed old n ≡ true) × (new ≡ old)
same-is true n old new is h = absurd (false≢true (sym is))
same-is false n old new is h = h
