-- How many dispatches the call in a seat has.
use Rattle.std.proofs.Common.{◌≡◌, ℕ, zero, suc, ◌<◌, ◌≤◌, ◌⊎◌, inl, inr, List, [], ◌∷◌, ◌++◌, length, Option, None, Some, refl, ap, sym, ◌∙◌, subst, arith, Bool, true, false, cond}
use Rattle.std.specs.Prelude.{slice_get, count_by, ◌==◌}
use Rattle.std.proofs.lemmas.Bool.Decides.{Decides-eqb}
use Rattle.std.proofs.lemmas.List.Sums.{sum_by-cons}
use Rattle.call_world.specs.Service.{IsRefusal, free_rules}
use Rattle.call_world.specs.World.{World, Seat, Sent, Dispatched, Refused, Answer, Close, Dispatch}
use Rattle.call_world.specs.Reached.{IsLogged}
use Rattle.call_world.specs.Counts.{count, is_of, belongs}
use Rattle.call_world.proofs.Lists.{count_once, get_within}
use Rattle.call_world.proofs.Runs.{sound_lem, logged_lem}
use Rattle.call_world.specs.Asked.{Wanted, wanted}
use Rattle.call_world.specs.Fits.{HasAsked}
use Rattle.call_world.specs.CaptureLaws.{AtMostOnce, OnceAnswered, NeverRefused, NeverClosed}

pub get_front : {A : Type 0} (xs ys : List A) (n : ℕ) (x : A) → slice_get xs n ≡ Some x → slice_get (xs ++ ys) n ≡ Some x
get_front [] ys n x h = absurd (let z : None ≡ Some x = h in cc)
get_front (y ∷ xs) ys zero x h = h
get_front (y ∷ xs) ys (suc n) x h = get_front xs ys n x h

pub get_before : {A : Type 0} (xs ys : List A) (n : ℕ) (x : A) → n < length xs → slice_get (xs ++ ys) n ≡ Some x → slice_get xs n ≡ Some x
get_before [] ys n x l h = absurd (omega arith)
get_before (y ∷ xs) ys zero x l h = h
get_before (y ∷ xs) ys (suc n) x l h = get_before xs ys n x (omega arith) h

either_way : (b : Bool) → (b ≡ true) ⊎ (b ≡ false)
either_way true = inl refl
either_way false = inr refl

own_seat : (i : ℕ) (o : Option Seat) → is_of i o ≡ true → (s : Seat) × (o ≡ Some s) × (s.invocation ≡ i)
own_seat i None h = absurd (let z : false ≡ true = h in cc)
own_seat i (Some s) h = (s, refl, (Decides-eqb s.invocation i).0 h)

count_none : {A : Type 0} (p : A → Bool) (xs : List A) → ((n : ℕ) (x : A) → slice_get xs n ≡ Some x → p x ≡ false) → count_by p xs ≡ 0
count_none p [] h = refl
count_none {A} p (x ∷ xs) h =
    let e = sum_by-cons (λ (y : A). cond (p y) 1 0) x xs in
    let rest = count_none p xs (λ n y k. h (suc n) y k) in
    let first = h 0 x refl in
    e ∙ rw (first, rest)

-- a test that passes somewhere passes at least once
count_some : {A : Type 0} (p : A → Bool) (xs : List A) (n : ℕ) (x : A) → slice_get xs n ≡ Some x → p x ≡ true → 1 ≤ count_by p xs
count_some p [] n x h t = absurd (let z : None ≡ Some x = h in cc)
count_some {A} p (y ∷ xs) zero x h t =
    let e = sum_by-cons (λ (z : A). cond (p z) 1 0) y xs in
    let t' : p y ≡ true = ap p (let u : y ≡ x = cc in u) ∙ t in
    rw (e, t') (omega arith)
count_some {A} p (y ∷ xs) (suc n) x h t =
    let e = sum_by-cons (λ (z : A). cond (p z) 1 0) y xs in
    let rest = count_some p xs n x h t in
    rw (e) (omega arith)

module _ {C R : Type 0} (idempotent : C → Bool) (calls : List (Wanted C)) (w : World C R (Unit {0})) (asked : HasAsked idempotent calls w) (seat : ℕ) (s : Seat) (at : slice_get (w.connections 0).asked seat ≡ Some s) where
  -- a dispatch of this invocation is one of this seat
  here : (d : Dispatch R) → belongs w s.invocation d ≡ true → (d.connection ≡ 0) × (d.seat ≡ seat)
  here d own =
      let o = own_seat s.invocation (slice_get (w.connections d.connection).asked d.seat) own in
      let first : d.connection ≡ 0 = elim (either_way (d.connection == 0)) [
        | inl t ↦ (Decides-eqb d.connection 0).0 t
        | inr f ↦ absurd (
            let none = asked.alone d.connection (λ e. let t = (Decides-eqb d.connection 0).1 e in let z : true ≡ false = sym t ∙ f in cc) in
            let z : None ≡ Some o.0 = ap (λ (xs : List Seat). slice_get xs d.seat) (sym none) ∙ o.1 in cc)
      ] in
      (first, asked.own d.seat seat o.0 s (ap (λ (n : ℕ). slice_get (w.connections n).asked d.seat) (sym first) ∙ o.1) at o.2)

  pub once_at_most : IsLogged w → count w s.invocation ≤ 1
  once_at_most logged = count_once (belongs w s.invocation) w.dispatches (λ m n d e a b x y.
      let p = here d x in
      let q = here e y in
      logged.distinct m n d e a b (p.0 ∙ sym q.0) (p.1 ∙ sym q.1))

  pub none_counted : IsLogged w → ((r : R) → ¬ (slice_get (w.connections 0).turns seat ≡ Some (Dispatched r))) → count w s.invocation ≡ 0
  none_counted logged never = count_none (belongs w s.invocation) w.dispatches (λ n d h.
      elim (either_way (belongs w s.invocation d)) [
        | inl t ↦ absurd (
            let p = here d t in
            let turn = logged.recorded n d h in
            never d.reply (ap (λ (c : ℕ). slice_get (w.connections c).turns seat) (sym p.0) ∙ (ap (λ (m : ℕ). slice_get (w.connections d.connection).turns m) (sym p.1) ∙ turn)))
        | inr f ↦ f
      ])

  pub once_counted : IsLogged w → (r : R) → slice_get (w.connections 0).turns seat ≡ Some (Dispatched r) → count w s.invocation ≡ 1
  once_counted logged r turn =
      let k = logged.known 0 seat r turn in
      let own : belongs w s.invocation (record { connection = 0; seat = seat; reply = r }) ≡ true =
      ap (is_of s.invocation) at ∙ (Decides-eqb s.invocation s.invocation).1 refl in
      let some = count_some (belongs w s.invocation) w.dispatches k.0 (record { connection = 0; seat = seat; reply = r }) k.1 own in
      let most = once_at_most logged in
      omega arith

module _ {C R : Type 0} (status : R → ℕ) (idempotent : C → Bool) where
  pub at_most_lem : AtMostOnce status idempotent
  at_most_lem client sent seat w s reached fits at =
      once_at_most idempotent (wanted 0 client) w fits.asked seat s at (logged_lem (free_rules status) tt w reached)

  pub answered_lem : OnceAnswered status idempotent
  unfolding free_rules
  answered_lem client sent seat m r h good w s reached fits at =
      let sound = sound_lem (free_rules status) tt w reached 0 in
      let logged = logged_lem (free_rules status) tt w reached in
      let a = ap (λ (xs : List (Sent R)). slice_get xs m) fits.answered ∙ get_front sent fits.more m (Answer seat r) h in
      elim (sound.answers m seat r a) [
        | inl turn ↦ once_counted idempotent (wanted 0 client) w fits.asked seat s at logged r turn
        | inr turn ↦ absurd (good (sound.refused seat r turn))
      ]

  pub refused_lem : NeverRefused status idempotent
  unfolding free_rules
  refused_lem client sent seat m r h bad w s reached fits at =
      let sound = sound_lem (free_rules status) tt w reached 0 in
      let logged = logged_lem (free_rules status) tt w reached in
      let a = ap (λ (xs : List (Sent R)). slice_get xs m) fits.answered ∙ get_front sent fits.more m (Answer seat r) h in
      none_counted idempotent (wanted 0 client) w fits.asked seat s at logged (λ q turn.
      elim (sound.answers m seat r a) [
        | inl other ↦
            let e : Some (Dispatched q) ≡ Some (Dispatched r) = sym turn ∙ other in
            let same : q ≡ r = cc in
            sound.dispatched seat q turn (subst (λ (x : R). IsRefusal (status x)) (sym same) bad)
        | inr other ↦ let e : Some (Dispatched q) ≡ Some (Refused r) = sym turn ∙ other in cc
      ])

  pub closed_lem : NeverClosed status idempotent
  unfolding free_rules
  closed_lem client sent seat m x wants two close none w s reached fits at =
      let sound = sound_lem (free_rules status) tt w reached 0 in
      let logged = logged_lem (free_rules status) tt w reached in
      let a = ap (λ (xs : List (Sent R)). slice_get xs m) fits.answered ∙ get_front sent fits.more m Close close in
      let is = fits.asked.calls seat s x at wants in
      none_counted idempotent (wanted 0 client) w fits.asked seat s at logged (λ q turn.
      let before = sound.closed m seat q s a turn at (is.asks ∙ two) in
      let within = get_within sent m Close close in
      let l = before.2 in
      let old = ap (λ (xs : List (Sent R)). slice_get xs before.0) (sym fits.answered) ∙ before.3 in
      none before.0 before.1 (get_before sent fits.more before.0 (Answer seat before.1) (omega arith) old))
