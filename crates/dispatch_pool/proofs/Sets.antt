-- Rows in which one item is another, and rows with one item more.
use Rattle.std.proofs.Common.{◌≡◌, ◌≢◌, ℕ, ◌+◌, ◌<◌, ◌≤◌, zero, suc, add-one, drop, List, [], ◌∷◌, ◌++◌, length, set, get_or, refl, sym, ap, ◌∙◌, subst, arith, length-set, length-append, get_or-set_same, get_or-set_other}
use Rattle.std.proofs.lemmas.List.{get_or_append_left, get_or_read}
use Rattle.std.proofs.Math.Seq.{get_or-append_seam}
use mathlib.Core.Logic.{dite}
use native.Mathlib.Decide.{ℕ_discrete}
use Rattle.dispatch_pool.specs.Abreast.{Both, Beside, AllThree}

module _ {A B : Type 0} (Is : ℕ → A → B → Type 0) where
  -- one item of the second row is another
  pub beside_set : (xs : List A) (ys : List B) (at : ℕ) (y : B) → Beside Is xs ys → at < length xs → ((x : A) → Is at (get_or xs at x) y) → Beside Is xs (set ys at y)
  beside_set xs ys at y b within here = let n = b.one_each in record {
    one_each = length-set ys at y ∙ b.one_each;
    each = λ i x d lt. dite (ℕ_discrete i at)
        (λ e. subst (λ (k : ℕ). Is k (get_or xs k x) (get_or (set ys at y) k d)) (sym e) (subst (Is at (get_or xs at x)) (sym (get_or-set_same ys at y d (omega arith))) (here x)))
        (λ ne. subst (Is i (get_or xs i x)) (sym (get_or-set_other ys at i y d ne)) (b.each i x d lt));
  }

  -- an item more in the second row
  pub both_more : (n : ℕ) (xs : List A) (ys ys' : List B) (y : B) → ys' ≡ ys ++ y ∷ [] → length ys ≡ n → Both Is n xs ys → ((x : A) → Is n (get_or xs n x) y) → Both Is (n + 1) xs ys'
  both_more n xs ys ys' y is long before here i x d lt = subst (λ (z : List B). Is i (get_or xs i x) (get_or z i d)) (sym is) (dite (ℕ_discrete i n)
      (λ e. let at : i ≡ length ys = e ∙ sym long in
      subst (λ (z : B). Is i (get_or xs i x) z) (sym (ap (λ (k : ℕ). get_or (ys ++ y ∷ []) k d) at ∙ get_or-append_seam ys y [] d)) (subst (λ (k : ℕ). Is k (get_or xs k x) y) (sym e) (here x)))
      (λ ne. let less : i < n = omega arith in
      subst (Is i (get_or xs i x)) (sym (get_or_append_left ys (y ∷ []) d i (omega arith))) (before i x d less)))

  -- an item more in both
  pub beside_more : (xs xs' : List A) (ys ys' : List B) (x : A) (y : B) → xs' ≡ xs ++ x ∷ [] → ys' ≡ ys ++ y ∷ [] → Beside Is xs ys → Is (length xs) x y → Beside Is xs' ys'
  beside_more xs xs' ys ys' x y isx isy b here = record {
    one_each = (let h = ap length isx in let k = ap length isy in let n = b.one_each in let l = length-append xs (x ∷ []) in let m = length-append ys (y ∷ []) in omega arith);
    each = λ i a d lt. both_more (length xs) xs' ys ys' y isy b.one_each
        (λ k a d less. subst (λ (z : List A). Is k (get_or z k a) (get_or ys k d)) (sym isx) (subst (λ (z : A). Is k z (get_or ys k d)) (sym (get_or_append_left xs (x ∷ []) a k less)) (b.each k a d less)))
        (λ a. subst (λ (z : List A). Is (length xs) (get_or z (length xs) a) y) (sym isx) (subst (λ (z : A). Is (length xs) z y) (sym (get_or-append_seam xs x [] a)) here))
        i a d (let h = ap length isx in let l = length-append xs (x ∷ []) in omega arith);
  }

module _ {A B C : Type 0} (Is : ℕ → A → B → C → Type 0) where
  -- an item more in the third row
  pub three_more : (n : ℕ) (xs : List A) (ys : List B) (zs zs' : List C) (z : C) → zs' ≡ zs ++ z ∷ [] → length zs ≡ n → AllThree Is n xs ys zs → ((x : A) (y : B) → Is n (get_or xs n x) (get_or ys n y) z) → AllThree Is (n + 1) xs ys zs'
  three_more n xs ys zs zs' z is long before here i x y d lt =
      both_more (λ k (a : A) (c : C). Is k a (get_or ys k y) c) n xs zs zs' z is long (λ k a c less. before k a y c less) (λ a. here a y) i x d lt

-- ---- a row taken apart from its front

drop_cut : {A : Type 0} (n : ℕ) (xs rest : List A) (x : A) → drop n xs ≡ x ∷ rest → (n < length xs) × ((d : A) → get_or xs n d ≡ x) × (rest ≡ drop (suc n) xs)
drop_cut zero [] rest x e = absurd (let h = ap length e in omega arith)
drop_cut zero (y ∷ ys) rest x e = (omega arith, (λ d. cc), cc)
drop_cut (suc n) [] rest x e = absurd (let h = ap length e in omega arith)
drop_cut (suc n) (y ∷ ys) rest x e = let h = drop_cut n ys rest x e in ((let l = h.0 in omega arith), h.1, h.2)

pub drop_next : {A : Type 0} (n : ℕ) (xs rest : List A) (x : A) → drop n xs ≡ x ∷ rest → (n < length xs) × ((d : A) → get_or xs n d ≡ x) × (rest ≡ drop (n + 1) xs)
drop_next n xs rest x e = let h = drop_cut n xs rest x e in (h.0, h.1, h.2 ∙ ap (λ (k : ℕ). drop k xs) (sym (add-one n)))

-- ---- one item and the others

module _ {A : Type 0} (xs : List A) (at : ℕ) (x : A) where
  -- it stands at this place
  pub record Stands : Type 0 where
    pub within : at < length xs
    pub is : x ≡ get_or xs at x

  pub stands_is : Stands → (d : A) → get_or xs at d ≡ x
  stands_is s d = sym (get_or_read xs at x s.within s.is d)

  pub others : (y : A) (i : ℕ) (d : A) → i ≢ at → get_or (set xs at y) i d ≡ get_or xs i d
  others y i d ne = get_or-set_other xs at i y d ne

  pub this : Stands → (y d : A) → get_or (set xs at y) at d ≡ y
  this s y d = get_or-set_same xs at y d s.within

-- ---- a loop over three rows, one place further

module _ {P R : Type 0} (Is : ℕ → P → R → P → Type 0) where
  -- below the place they are as they are to be; from it on as they were
  pub three_step : (ps qs qs' : List P) (rs rs' : List R) (i : ℕ) (r : R)
      → AllThree Is i ps rs qs → ((k : ℕ) (d : P) → i ≤ k → get_or qs k d ≡ get_or ps k d)
      → ((k : ℕ) (d : R) → k < i → get_or rs' k d ≡ get_or rs k d) → ((d : R) → get_or rs' i d ≡ r)
      → ((k : ℕ) (d : P) → k ≢ i → get_or qs' k d ≡ get_or qs k d) → ((d e : P) → Is i (get_or qs i d) r (get_or qs' i e))
      → AllThree Is (i + 1) ps rs' qs'
  three_step ps qs qs' rs rs' i r before rest same this others here k x y z lt = dite (ℕ_discrete k i)
      (λ e. subst (λ (n : ℕ). Is n (get_or ps n x) (get_or rs' n y) (get_or qs' n z)) (sym e)
      (subst (λ (w : P × R). Is i w.0 w.1 (get_or qs' i z)) (λ j. (rest i x (omega arith) j, sym (this y) j)) (here x z)))
      (λ ne. let less : k < i = omega arith in
      subst (λ (w : R × P). Is k (get_or ps k x) w.0 w.1) (λ j. (sym (same k y less) j, sym (others k z ne) j)) (before k x y z less))

-- what holds of each item, and of one more
pub every_more : {A : Type 0} (Is : A → Type 0) (xs xs' : List A) (x : A) → xs' ≡ xs ++ x ∷ []
    → ((i : ℕ) (d : A) → i < length xs → Is (get_or xs i d)) → Is x → (i : ℕ) (d : A) → i < length xs' → Is (get_or xs' i d)
every_more {A} Is xs xs' x is before here i d lt =
    both_more (λ k (a : A) (b : A). Is b) (length xs) xs xs xs' x is refl (λ k a b l. before k b l) (λ a. here) i d d
    (let h = ap length is in let l = length-append xs (x ∷ []) in omega arith)

-- ---- single items

-- an item is the same whatever stands in for one that is not there
pub same_item : {A : Type 0} (xs : List A) (i : ℕ) (d e : A) → i < length xs → get_or xs i d ≡ get_or xs i e
same_item [] i d e lt = absurd (omega arith)
same_item (x ∷ xs) zero d e lt = refl
same_item (x ∷ xs) (suc i) d e lt = same_item xs i d e (omega arith)

pub push_same : {A : Type 0} (xs ys : List A) (x : A) → ys ≡ xs ++ x ∷ [] → (k : ℕ) (d : A) → k < length xs → get_or ys k d ≡ get_or xs k d
push_same xs ys x is k d lt = ap (λ z. get_or z k d) is ∙ get_or_append_left xs (x ∷ []) d k lt

pub push_here : {A : Type 0} (xs ys : List A) (x : A) → ys ≡ xs ++ x ∷ [] → (i : ℕ) → length xs ≡ i → (d : A) → get_or ys i d ≡ x
push_here xs ys x is i long d = ap (λ z. get_or z i d) is ∙ (ap (λ (k : ℕ). get_or (xs ++ x ∷ []) k d) (sym long) ∙ get_or-append_seam xs x [] d)

pub beside_here : {A B : Type 0} (Is : ℕ → A → B → Type 0) (xs : List A) (ys : List B) (i : ℕ) (x : A) (y : B) → Beside Is xs ys → i < length xs
    → ((d : A) → get_or xs i d ≡ x) → ((d : B) → get_or ys i d ≡ y) → Is i x y
beside_here {A} {B} Is xs ys i x y b lt isx isy = subst (λ (z : A × B). Is i z.0 z.1) (λ k. (isx x k, isy y k)) (b.each i x y lt)

-- what holds of two or three things holds of what equals them
pub as_two : {A B : Type 0} (Is : A → B → Type 0) {a a' : A} {b b' : B} → a' ≡ a → b' ≡ b → Is a b → Is a' b'
as_two {A} {B} Is p q h = subst (λ (z : A × B). Is z.0 z.1) (λ k. (sym p k, sym q k)) h

pub as_three : {A B C : Type 0} (Is : A → B → C → Type 0) {a a' : A} {b b' : B} {c c' : C} → a' ≡ a → b' ≡ b → c' ≡ c → Is a b c → Is a' b' c'
as_three {A} {B} {C} Is p q r h = subst (λ (z : A × B × C). Is z.0 z.1 z.2) (λ k. (sym p k, sym q k, sym r k)) h
