-- Items by number, and changes of them.
use Rattle.std.proofs.Common.{◌≡◌, ℕ, zero, suc, ◌+◌, ◌<◌, ◌≤◌, List, [], ◌∷◌, ◌++◌, length, Option, None, Some, refl, ap, ◌∙◌, subst, arith, map, Bool, true, false}
use Rattle.std.specs.Prelude.{slice_get}
use Rattle.call_world.specs.World.{put_at, Seat, Outcome}
use Rattle.call_world.proofs.Lists.{put_cases}
use Rattle.once_law.specs.Placed.{From, Stand, invocations, seats, after, after_all}

pub put_here : {A : Type 0} (f : ℕ → A) (k : ℕ) (a : A) → put_at f k a k ≡ a
put_here {A} f k a = put_cases (λ (x : A). x ≡ a) f k a k (λ e. refl) (λ e. absurd (e refl))

pub put_there : {A : Type 0} (f : ℕ → A) (k : ℕ) (a : A) (j : ℕ) → ¬ (j ≡ k) → put_at f k a j ≡ f j
put_there {A} f k a j other = put_cases (λ (x : A). x ≡ f j) f k a j (λ e. absurd (other e)) (λ e. refl)

pub none_at : {A : Type 0} (n : ℕ) (x : A) → slice_get [] n ≡ Some x → ⊥
none_at n x h = let z : None ≡ Some x = h in cc

pub none_some : {A : Type 0} {x : A} → None ≡ Some x → ⊥
none_some e = cc

pub true_false : true ≡ false → ⊥
true_false e = cc

pub false_true : false ≡ true → ⊥
false_true e = cc

pub head_is : {A : Type 0} {x y : A} {xs ys : List A} → x ∷ xs ≡ y ∷ ys → x ≡ y
head_is e = cc

pub tail_is : {A : Type 0} {x y : A} {xs ys : List A} → x ∷ xs ≡ y ∷ ys → xs ≡ ys
tail_is e = cc

pub first_is : {A : Type 0} (x y : A) → Some x ≡ Some y → x ≡ y
first_is x y e = cc

-- ---- it holds of each, from a number on

pub from_each : {A : Type 0} (Is : ℕ → A → Type 0) (n : ℕ) (xs : List A) → ((q : ℕ) (x : A) → slice_get xs q ≡ Some x → Is (n + q) x) → From Is n xs
from_each Is n [] h = tt
from_each {A} Is n (x ∷ xs) h = (
  subst (λ (j : ℕ). Is j x) (let e : n + 0 ≡ n = omega arith in e) (h 0 x refl),
  from_each Is (suc n) xs (λ q y g. subst (λ (j : ℕ). Is j y) (let e : n + suc q ≡ suc n + q = omega arith in e) (h (suc q) y g)),
)

pub each_from : {A : Type 0} (Is : ℕ → A → Type 0) (n : ℕ) (xs : List A) → From Is n xs → (q : ℕ) (x : A) → slice_get xs q ≡ Some x → Is (n + q) x
each_from Is n [] f q x h = absurd (none_at q x h)
each_from Is n (y ∷ xs) f zero x h =
    subst (λ (j : ℕ). Is j x) (let e : n ≡ n + 0 = omega arith in e) (subst (Is n) (first_is y x h) f.0)
each_from Is n (y ∷ xs) f (suc q) x h =
    subst (λ (j : ℕ). Is j x) (let e : suc n + q ≡ n + suc q = omega arith in e) (each_from Is (suc n) xs f.1 q x h)

pub from_map : {A : Type 0} (Is Was : ℕ → A → Type 0) (n : ℕ) (xs : List A) → ((j : ℕ) (x : A) → n ≤ j → j < n + length xs → Was j x → Is j x) → From Was n xs → From Is n xs
from_map Is Was n [] goes f = tt
from_map Is Was n (x ∷ xs) goes f =
    (goes n x (omega arith) (omega arith) f.0, from_map Is Was (suc n) xs (λ j y low high. goes j y (omega arith) (omega arith)) f.1)

pub stand_stays : {A : Type 0} (f g : ℕ → Option A) (i : ℕ) (xs : List A) → ((j : ℕ) → i ≤ j → j < i + length xs → g j ≡ f j) → Stand f i xs → Stand g i xs
stand_stays {A} f g i xs same s = from_map (λ (j : ℕ) (x : A). g j ≡ Some x) (λ (j : ℕ) (x : A). f j ≡ Some x) i xs (λ j x low high e. same j low high ∙ e) s

-- ---- items put one behind the other

abbrev pub puts : {A : Type 0} → (ℕ → Option A) → ℕ → List A → ℕ → Option A
puts f i [] = f
puts f i (x ∷ xs) = puts (put_at f i (Some x)) (suc i) xs

pub puts_below : {A : Type 0} (f : ℕ → Option A) (i : ℕ) (xs : List A) (j : ℕ) → j < i → puts f i xs j ≡ f j
puts_below f i [] j l = refl
puts_below f i (x ∷ xs) j l = puts_below (put_at f i (Some x)) (suc i) xs j (omega arith) ∙ put_there f i (Some x) j (λ e. omega arith)

pub puts_above : {A : Type 0} (f : ℕ → Option A) (i : ℕ) (xs : List A) (j : ℕ) → i + length xs ≤ j → puts f i xs j ≡ f j
puts_above f i [] j l = refl
puts_above f i (x ∷ xs) j l = puts_above (put_at f i (Some x)) (suc i) xs j (omega arith) ∙ put_there f i (Some x) j (λ e. omega arith)

pub puts_stand : {A : Type 0} (f : ℕ → Option A) (i : ℕ) (xs : List A) → Stand (puts f i xs) i xs
puts_stand f i [] = tt
puts_stand f i (x ∷ xs) =
    (puts_below (put_at f i (Some x)) (suc i) xs i (omega arith) ∙ put_here f i (Some x), puts_stand (put_at f i (Some x)) (suc i) xs)

-- ---- mapped lists

pub get_mapped : {A B : Type 0} (f : A → B) (xs : List A) (n : ℕ) (y : B) → slice_get (map f xs) n ≡ Some y → (x : A) × (slice_get xs n ≡ Some x) × (f x ≡ y)
get_mapped f [] n y h = absurd (none_at n y h)
get_mapped f (x ∷ xs) zero y h = (x, refl, first_is (f x) y h)
get_mapped f (x ∷ xs) (suc n) y h = get_mapped f xs n y h

pub mapped_more : {A B : Type 0} (f : A → B) (xs : List A) (x : A) → map f (xs ++ x ∷ []) ≡ map f xs ++ f x ∷ []
mapped_more f [] x = refl
mapped_more {A} {B} f (y ∷ xs) x = ap (λ (z : List B). f y ∷ z) (mapped_more f xs x)

pub mapped_long : {A B : Type 0} (f : A → B) (xs : List A) → length (map f xs) ≡ length xs
mapped_long f [] = refl
mapped_long f (x ∷ xs) = ap suc (mapped_long f xs)

pub more_long : {A : Type 0} (xs : List A) (x : A) → length (xs ++ x ∷ []) ≡ length xs + 1
more_long [] x = refl
more_long (y ∷ xs) x = let e = more_long xs x in omega arith

-- ---- the calls of one message

module _ {C R : Type 0} (twoway : Bool) where
  pub invocations_long : (connected : List (Option ℕ)) (result : Option (Outcome R)) (seat : ℕ) (xs : List (C × Bool)) → length (invocations twoway connected result seat xs) ≡ length xs
  invocations_long connected result seat [] = refl
  invocations_long connected result seat (x ∷ xs) = ap suc (invocations_long connected result (suc seat) xs)

-- a seat of the message
pub record IsSeat (ss : List Seat) (n i : ℕ) (twoway : Bool) (size : ℕ) : Type 0 where
  pub seat : Seat
  pub at : slice_get ss n ≡ Some seat
  pub own : seat.invocation ≡ i
  pub asks : seat.twoway ≡ twoway
  pub ends : seat.ends ≡ size

pub seat_at : {X : Type 0} (i : ℕ) (twoway : Bool) (size : ℕ) (xs : List X) (n : ℕ) → n < length xs → IsSeat (seats i twoway size xs) n (i + n) twoway size
seat_at i twoway size [] n l = absurd (omega arith)
seat_at i twoway size (x ∷ xs) zero l = record {
  seat = record { invocation = i; twoway = twoway; ends = size };
  at = refl;
  own = omega arith;
  asks = refl;
  ends = refl;
}
seat_at i twoway size (x ∷ xs) (suc n) l =
    let s = seat_at (suc i) twoway size xs n (omega arith) in
    let own = s.own in
    record { seat = s.seat; at = s.at; own = omega arith; asks = s.asks; ends = s.ends }

pub seats_long : {X : Type 0} (i : ℕ) (twoway : Bool) (size : ℕ) (xs : List X) → length (seats i twoway size xs) ≡ length xs
seats_long i twoway size [] = refl
seats_long i twoway size (x ∷ xs) = ap suc (seats_long (suc i) twoway size xs)

pub get_some : {A : Type 0} (xs : List A) (n : ℕ) → n < length xs → (x : A) × (slice_get xs n ≡ Some x)
get_some [] n l = absurd (omega arith)
get_some (x ∷ xs) zero l = (x, refl)
get_some (x ∷ xs) (suc n) l = get_some xs n (omega arith)

-- ---- numbers of connections rise

pub after_rises : {A : Type 0} (c : ℕ) (t : Option A) → c ≤ after c t
after_rises c None = omega arith
after_rises c (Some x) = omega arith

pub all_rises : {A : Type 0} (c : ℕ) (ts : List (Option A)) → c ≤ after_all c ts
all_rises c [] = omega arith
all_rises c (t ∷ ts) = let a = after_rises c t in let b = all_rises (after c t) ts in omega arith
