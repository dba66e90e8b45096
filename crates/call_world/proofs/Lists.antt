-- Elements by place, where one is put last, and counts of them.
use Rattle.std.proofs.Common.{◌≡◌, ℕ, zero, suc, ◌<◌, ◌≤◌, ◌⊎◌, inl, inr, List, [], ◌∷◌, ◌++◌, length, None, Some, refl, ap, arith, Bool, true, false, cond, sym, ◌∙◌}
use Rattle.std.specs.Prelude.{slice_get, count_by, ◌==◌, if◌then◌else◌}
use Rattle.std.proofs.lemmas.Bool.Decides.{Decides-eqb}
use Rattle.std.proofs.lemmas.List.Sums.{sum_by-cons}
use Rattle.call_world.specs.World.{put_at}

pub get_old : {A : Type 0} (xs : List A) (y : A) (n : ℕ) (x : A) → slice_get xs n ≡ Some x → slice_get (xs ++ y ∷ []) n ≡ Some x
get_old [] y n x h = cc
get_old (z ∷ xs) y zero x h = h
get_old (z ∷ xs) y (suc n) x h = get_old xs y n x h

pub get_last : {A : Type 0} (xs : List A) (y : A) → slice_get (xs ++ y ∷ []) (length xs) ≡ Some y
get_last [] y = refl
get_last (z ∷ xs) y = get_last xs y

pub get_cases : {A : Type 0} (xs : List A) (y : A) (n : ℕ) (x : A) → slice_get (xs ++ y ∷ []) n ≡ Some x → (slice_get xs n ≡ Some x) ⊎ ((n ≡ length xs) × (y ≡ x))
get_cases [] y zero x h = inr (refl, cc)
get_cases [] y (suc n) x h = absurd (let k : None ≡ Some x = h in cc)
get_cases (z ∷ xs) y zero x h = inl h
get_cases (z ∷ xs) y (suc n) x h =
    elim (get_cases xs y n x h) [ inl a ↦ inl a | inr b ↦ inr (ap suc b.0, b.1) ]

pub get_within : {A : Type 0} (xs : List A) (n : ℕ) (x : A) → slice_get xs n ≡ Some x → n < length xs
get_within [] n x h = absurd (let k : None ≡ Some x = h in cc)
get_within (z ∷ xs) zero x h = omega arith
get_within (z ∷ xs) (suc n) x h = let k = get_within xs n x h in omega arith

either_bool : (b : Bool) → (b ≡ true) ⊎ (b ≡ false)
either_bool true = inl refl
either_bool false = inr refl

choice : {A : Type 0} (P : A → Type 0) (b : Bool) (x y : A) → (b ≡ true → P x) → (b ≡ false → P y) → P (if b then x else y)
choice P true x y yes_ no_ = yes_ refl
choice P false x y yes_ no_ = no_ refl

-- what is so of the new item at its place, and of each other as it was, is so after the change
pub put_cases : {A : Type 0} (P : A → Type 0) (items : ℕ → A) (place : ℕ) (item : A) (n : ℕ)
    → (n ≡ place → P item) → (¬ (n ≡ place) → P (items n)) → P (put_at items place item n)
put_cases P items place item n here elsewhere =
    choice P (n == place) item (items n) (λ t. here ((Decides-eqb n place).0 t))
    (λ e. elsewhere (λ s. let t = (Decides-eqb n place).1 s in let u : true ≡ false = sym t ∙ e in cc))

count_none : {A : Type 0} (p : A → Bool) (xs : List A) → ((n : ℕ) (x : A) → slice_get xs n ≡ Some x → p x ≡ false) → count_by p xs ≡ 0
count_none p [] h = refl
count_none {A} p (x ∷ xs) h =
    let e = sum_by-cons (λ (y : A). cond (p y) 1 0) x xs in
    let rest = count_none p xs (λ n y k. h (suc n) y k) in
    let first = h 0 x refl in
    e ∙ rw (first, rest)

-- a test that passes at no two places passes at most once
pub count_once : {A : Type 0} (p : A → Bool) (xs : List A)
    → ((m n : ℕ) (x y : A) → slice_get xs m ≡ Some x → slice_get xs n ≡ Some y → p x ≡ true → p y ≡ true → m ≡ n)
    → count_by p xs ≤ 1
count_once p [] h = omega arith
count_once {A} p (x ∷ xs) h =
    let e = sum_by-cons (λ (y : A). cond (p y) 1 0) x xs in
    elim (either_bool (p x)) [
      | inl t ↦
          let others : (n : ℕ) (y : A) → slice_get xs n ≡ Some y → p y ≡ false =
          λ n y k. elim (either_bool (p y)) [
            | inl u ↦ absurd (let z : 0 ≡ suc n = h 0 (suc n) x y refl k t u in omega arith)
            | inr u ↦ u
          ] in
          let rest = count_none p xs others in
          rw (e, t, rest) (omega arith)
      | inr f ↦
          let rest = count_once p xs (λ m n y z a b c d. let q : suc m ≡ suc n = h (suc m) (suc n) y z a b c d in omega arith) in
          rw (e, f) (omega arith)
    ]
