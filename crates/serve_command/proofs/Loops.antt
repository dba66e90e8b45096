-- Words that are gone over one by one.
use Rattle.std.proofs.Common.{◌≡◌, ◌<◌, ◌≤◌, ◌+◌, ◌-◌, ◌⊎◌, ℕ, suc, zero, List, [], ◌∷◌, length, map, refl, sym, ap, ◌∙◌, subst, arith, inl, inr, get_or, Option, Some, None}
use Rattle.std.specs.Prelude.{slice_get}
use Rattle.std.proofs.Math.Nat.{eq-or-lt_of_le}
use Rattle.std.specs.List.{AllByRecursion}
use Rattle.serve_command.specs.ObjectWords.{Object}
use Rattle.serve_command.specs.Adapters.{First, Never}

-- an item stands at its place
pub there : {A B : Type 0} (f : A → B) (xs : List A) (i : ℕ) (x : A) → i < length xs → x ≡ get_or xs i x → slice_get (map f xs) i ≡ Some (f x)
there f [] i x lt is = absurd (omega (arith, lt))
there f (y ∷ ys) zero x lt is = ap (λ z. Some (f z)) (sym is)
there f (y ∷ ys) (suc i) x lt is = there f ys i x (omega (arith, lt)) is

-- what holds of all holds of it
pub all_there : {A B : Type 0} (P : B → Type 0) (f : A → B) (xs : List A) (i : ℕ) (x : A) → i < length xs → x ≡ get_or xs i x → AllByRecursion P (map f xs) → P (f x)
all_there P f [] i x lt is all = absurd (omega (arith, lt))
all_there P f (y ∷ ys) zero x lt is all = subst (λ z. P (f z)) (sym is) all.0
all_there P f (y ∷ ys) (suc i) x lt is all = all_there P f ys i x (omega (arith, lt)) is all.1

abbrev one_of : {A : Type 0} → A → Option A → A
one_of d None = d
one_of d (Some x) = x

module _ {X : Type 0} (Is : Object → X → Type 0) where
  -- of none of the first words it holds
  abbrev pub NeverBefore : List Object → ℕ → Type 0
  NeverBefore objects n = (i : ℕ) (other : Object) (y : X) → i < n → slice_get objects i ≡ Some other → Is other y → ⊥

  pub none_yet : (objects : List Object) → NeverBefore objects 0
  none_yet objects = λ i other y lt. absurd (omega (arith, lt))

  pub never_more : (objects : List Object) (n : ℕ) (object : Object) → slice_get objects n ≡ Some object → ((y : X) → Is object y → ⊥) → NeverBefore objects n → NeverBefore objects (n + 1)
  never_more objects n object is never before = λ i other y lt at holds. by i other y at holds (eq-or-lt_of_le (omega (arith, lt)))
    where
      by : (i : ℕ) (other : Object) (y : X) → slice_get objects i ≡ Some other → Is other y → (i ≡ n) ⊎ (i < n) → ⊥
      by i other y at holds (inl e) = never y (subst (λ (o : Object). Is o y) (ap (one_of object) (sym at ∙ (ap (λ (k : ℕ). slice_get objects k) e ∙ is))) holds)
      by i other y at holds (inr lt) = before i other y lt at holds

  pub never : (objects : List Object) (n : ℕ) → length objects ≤ n → NeverBefore objects n → Never Is objects
  never objects n all before = λ i object y at. before i object y (omega (arith, all, within objects i object at)) at
    where
      within : (xs : List Object) (i : ℕ) (x : Object) → slice_get xs i ≡ Some x → i < length xs
      within [] i x e = absurd cc
      within (y ∷ ys) zero x e = omega arith
      within (y ∷ ys) (suc i) x e = omega (arith, within ys i x e)

  pub first : (objects : List Object) (n : ℕ) (object : Object) (x : X) → slice_get objects n ≡ Some object → Is object x → NeverBefore objects n → First Is objects x
  first objects n object x there is before = record {
    at = n;
    object = object;
    there = there;
    is = is;
    none_before = before;
  }

-- as many as they come from
pub of_mapped : {A B : Type 0} (f : A → B) (xs : List A) (n : ℕ) → length xs ≤ n → length (map f xs) ≤ n
of_mapped f [] n le = omega arith
of_mapped f (x ∷ xs) n le = by (map f xs) n (of_mapped f xs (n - 1) (omega (arith, le))) le
  where
    by : {B : Type 0} (ys : List B) (n : ℕ) → length ys ≤ n - 1 → suc (length xs) ≤ n → suc (length ys) ≤ n
    by ys n a b = omega (arith, a, b)

-- the item at a place, with whatever stands for one that is not there
pub there_at : {A B : Type 0} (f : A → B) (xs : List A) (i : ℕ) (d : A) → i < length xs → slice_get (map f xs) i ≡ Some (f (get_or xs i d))
there_at f [] i d lt = absurd (omega (arith, lt))
there_at f (y ∷ ys) zero d lt = refl
there_at f (y ∷ ys) (suc i) d lt = there_at f ys i d (omega (arith, lt))
