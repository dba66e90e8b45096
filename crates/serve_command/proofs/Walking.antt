-- Words by which something goes on, one after the other.
use Rattle.std.proofs.Common.{◌≡◌, ◌≤◌, ◌<◌, ◌+◌, ℕ, suc, zero, List, [], ◌∷◌, length, map, take, get_or, refl, sym, ap, subst, arith, add-one}
use Rattle.std.specs.Prelude.{slice_get, Some}
use Rattle.std.specs.List.{AllByRecursion}
use Rattle.serve_command.specs.ObjectWords.{Object}
use Rattle.serve_command.specs.Adapters.{GoesBy}

some_same : {A : Type 0} (x y : A) → Some x ≡ Some y → x ≡ y
some_same x y e = cc

module _ {S : Type 0} (By : Object → S → S → Type 0) where
  -- from the old to the new, word by word
  abbrev pub Walks : List Object → S → S → Type 0
  Walks [] old new = new ≡ old
  Walks (o ∷ os) old new = (mid : S) × By o old mid × Walks os mid new

  -- the step after so many words
  abbrev step_of : (os : List Object) (old new : S) → Walks os old new → ℕ → S
  step_of [] old new w n = old
  step_of (o ∷ os) old new w zero = old
  step_of (o ∷ os) old new w (suc n) = step_of os w.0 new w.2 n

  begins_of : (os : List Object) (old new : S) (w : Walks os old new) → step_of os old new w 0 ≡ old
  begins_of [] old new w = refl
  begins_of (o ∷ os) old new w = refl

  ends_of : (os : List Object) (old new : S) (w : Walks os old new) → step_of os old new w (length os) ≡ new
  ends_of [] old new w = sym w
  ends_of (o ∷ os) old new w = ends_of os w.0 new w.2

  each_of : (os : List Object) (old new : S) (w : Walks os old new) (i : ℕ) (word : Object) → slice_get os i ≡ Some word → By word (step_of os old new w i) (step_of os old new w (suc i))
  each_of [] old new w i word e = absurd cc
  each_of (o ∷ os) old new w zero word e =
      subst (λ (z : Object). By z old (step_of os w.0 new w.2 0)) (some_same o word e) (subst (λ (z : S). By o old z) (sym (begins_of os w.0 new w.2)) w.1)
  each_of (o ∷ os) old new w (suc i) word e = each_of os w.0 new w.2 i word e

  -- word by word is by steps
  pub goes : (os : List Object) (old new : S) → Walks os old new → GoesBy By os old new
  goes os old new w = record {
    step = step_of os old new w;
    begins = begins_of os old new w;
    each = each_of os old new w;
    ends = ends_of os old new w;
  }

  module _ {A : Type 0} (f : A → Object) where
    pub walk_none : (xs : List A) (old new : S) → new ≡ old → Walks (map f (take 0 xs)) old new
    walk_none [] old new is = is
    walk_none (x ∷ xs) old new is = is

    -- one word more
    walk_suc : (xs : List A) (i : ℕ) (d : A) (old mid new : S) → i < length xs → Walks (map f (take i xs)) old mid → By (f (get_or xs i d)) mid new → Walks (map f (take (suc i) xs)) old new
    walk_suc [] i d old mid new lt w one = absurd (omega (arith, lt))
    walk_suc (y ∷ ys) zero d old mid new lt w one = (new, subst (λ (z : S). By (f y) z new) w one, refl)
    walk_suc (y ∷ ys) (suc i) d old mid new lt w one = (w.0, w.1, walk_suc ys i d w.0 mid new (omega (arith, lt)) w.2 one)

    pub walk_more : (xs : List A) (i : ℕ) (d : A) (old mid new : S) → i < length xs → Walks (map f (take i xs)) old mid → By (f (get_or xs i d)) mid new → Walks (map f (take (i + 1) xs)) old new
    walk_more xs i d old mid new lt w one = rw add-one (walk_suc xs i d old mid new lt w one)

    -- all of them
    pub walk_all : (xs : List A) (i : ℕ) (old new : S) → length xs ≤ i → Walks (map f (take i xs)) old new → Walks (map f xs) old new
    walk_all [] zero old new le w = w
    walk_all [] (suc i) old new le w = w
    walk_all (y ∷ ys) zero old new le w = absurd (omega (arith, le))
    walk_all (y ∷ ys) (suc i) old new le w = (w.0, w.1, walk_all ys i w.0 new (omega (arith, le)) w.2)

    pub gone : (xs : List A) (i : ℕ) (old new : S) → length xs ≤ i → Walks (map f (take i xs)) old new → GoesBy By (map f xs) old new
    gone xs i old new le w = goes (map f xs) old new (walk_all xs i old new le w)

-- what stands among the first of them stands there among all
pub taken_at : {A B C : Type 0} (g : B → C) (f : A → B) (xs : List A) (i j : ℕ) (y : C) → slice_get (map g (map f (take i xs))) j ≡ Some y → slice_get (map g (map f xs)) j ≡ Some y
taken_at g f [] zero j y e = e
taken_at g f [] (suc i) j y e = e
taken_at g f (x ∷ xs) zero j y e = absurd cc
taken_at g f (x ∷ xs) (suc i) zero y e = e
taken_at g f (x ∷ xs) (suc i) (suc j) y e = taken_at g f xs i j y e

pub taken_length : {A B : Type 0} (f : A → B) (xs : List A) (i : ℕ) → length (map f (take i xs)) ≤ i
taken_length f [] zero = omega arith
taken_length f [] (suc i) = omega arith
taken_length f (x ∷ xs) zero = omega arith
taken_length f (x ∷ xs) (suc i) = omega (arith, taken_length f xs i)

pub mapped_length : {A B : Type 0} (f : A → B) (xs : List A) → length (map f xs) ≡ length xs
mapped_length f [] = refl
mapped_length f (x ∷ xs) = ap suc (mapped_length f xs)

-- the item that stands at a place
pub mapped_at : {A B C : Type 0} (g : B → C) (f : A → B) (xs : List A) (i : ℕ) (d : A) → i < length xs → slice_get (map g (map f xs)) i ≡ Some (g (f (get_or xs i d)))
mapped_at g f [] i d lt = absurd (omega (arith, lt))
mapped_at g f (y ∷ ys) zero d lt = refl
mapped_at g f (y ∷ ys) (suc i) d lt = mapped_at g f ys i d (omega (arith, lt))

-- what holds of all holds of it
pub all_at : {A B : Type 0} (P : B → Type 0) (f : A → B) (xs : List A) (i : ℕ) (d : A) → i < length xs → AllByRecursion P (map f xs) → P (f (get_or xs i d))
all_at P f [] i d lt all = absurd (omega (arith, lt))
all_at P f (y ∷ ys) zero d lt all = all.0
all_at P f (y ∷ ys) (suc i) d lt all = all_at P f ys i d (omega (arith, lt)) all.1
