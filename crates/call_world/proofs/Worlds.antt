-- What holds of each invocation and each seat of a reached world, and how it goes on when one of them changes.
use Rattle.std.proofs.Common.{◌≡◌, ℕ, ◌+◌, ◌<◌, ◌⊎◌, inl, inr, List, [], ◌∷◌, length, Option, None, Some, refl, ap, sym, ◌∙◌, subst, arith, true, false, length-append}
use Rattle.std.specs.Prelude.{slice_get}
use Rattle.call_world.specs.Service.{IsRefusal}
use Rattle.call_world.specs.World.{World, Connection, Seat, Dispatched, Place, Invocation, Outcome, Replied, Handed, Failed, put_at}
use Rattle.call_world.specs.Dead.{IsDead}
use Rattle.call_world.specs.Step.{MayTry, MayFinish, tried}
use Rattle.call_world.specs.Reached.{IsSound, IsSeatOf, IsAttemptOf}
use Rattle.call_world.proofs.Lists.{get_cases, put_cases}
use Rattle.call_world.proofs.Connections.{IsDoomed, IsKept, kept_refl, doomed_from_dead}

-- what holds of invocation i
pub record IsFine {C R O : Type 0} (status : R → ℕ) (w : World C R O) (i : ℕ) (v : Invocation C R) : Type 0 where
  pub placed : (n : ℕ) (p : Place) → slice_get v.attempts n ≡ Some (Some p) → IsSeatOf w p i
  -- where it is not idempotent, only its last attempt may have a dispatch, now and later
  pub last :
      v.idempotent ≡ false → (n : ℕ) (p : Place) → slice_get v.attempts n ≡ Some (Some p)
      → n + 1 < length v.attempts → IsDoomed (w.connections p.connection) p.seat
  pub told :
      (r : R) → v.result ≡ Some (Replied r) → ¬ IsRefusal (status r)
      → (p : Place) × IsSeatOf w p i × (slice_get (w.connections p.connection).turns p.seat ≡ Some (Dispatched r))

pub record IsCalled {C R O : Type 0} (status : R → ℕ) (w : World C R O) : Type 0 where
  pub sound : (c : ℕ) → IsSound status (w.connections c)
  pub fine : (i : ℕ) (v : Invocation C R) → w.invocations i ≡ Some v → IsFine status w i v
  pub listed :
      (p : Place) (s : Seat) → slice_get (w.connections p.connection).asked p.seat ≡ Some s
      → IsAttemptOf w s.invocation p

module _ {C R O : Type 0} (status : R → ℕ) (w w' : World C R O) (called : IsCalled status w) (kept : (c : ℕ) → IsKept status (w.connections c) (w'.connections c)) where
  seat_stays : (p : Place) (i : ℕ) → IsSeatOf w p i → IsSeatOf w' p i
  seat_stays p i s = record {
    seat = s.seat;
    asked = (kept p.connection).asked p.seat s.seat s.asked;
    own = s.own;
  }

  fine_stays : (i : ℕ) (v : Invocation C R) → IsFine status w i v → IsFine status w' i v
  fine_stays i v f = record {
    placed = λ n p h. seat_stays p i (f.placed n p h);
    last = λ e n p h l. (kept p.connection).doomed (called.sound p.connection) p.seat (f.last e n p h l);
    told = λ r e ok.
        let t = f.told r e ok in
        (t.0, seat_stays t.0 i t.1, (kept t.0.connection).turns t.0.seat (Dispatched r) t.2);
  }

  -- each invocation and each seat is as it was, or is well
  pub called_from :
      ((i : ℕ) (v : Invocation C R) → w'.invocations i ≡ Some v → (w.invocations i ≡ Some v) ⊎ IsFine status w' i v)
      → ((i : ℕ) (p : Place) → IsAttemptOf w i p → IsAttemptOf w' i p)
      → ((p : Place) (s : Seat) → slice_get (w'.connections p.connection).asked p.seat ≡ Some s
      → (slice_get (w.connections p.connection).asked p.seat ≡ Some s) ⊎ IsAttemptOf w' s.invocation p)
      → IsCalled status w'
  called_from fine lists seats = record {
    sound = λ c. (kept c).sound (called.sound c);
    fine = λ i v h. elim (fine i v h) [
      | inl old ↦ fine_stays i v (called.fine i v old)
      | inr new ↦ new
    ];
    listed = λ p s h. elim (seats p s h) [
      | inl old ↦ lists s.invocation p (called.listed p s old)
      | inr new ↦ new
    ];
  }

  pub doomed_later : (p : Place) → IsDead status w (Some p) → IsDoomed (w'.connections p.connection) p.seat
  doomed_later p d =
      let s = called.sound p.connection in
      (kept p.connection).doomed s p.seat (doomed_from_dead status (w.connections p.connection) p.seat s d)

  -- one attempt more: the attempts before it are dead, or it may be tried again whatever became of them
  pub fine_tried :
      (i : ℕ) (v : Invocation C R) (p : Option Place) → w.invocations i ≡ Some v → MayTry status w v
      → ((q : Place) → p ≡ Some q → IsSeatOf w' q i) → IsFine status w' i (tried v p)
  fine_tried i v p at may seat =
      let f = fine_stays i v (called.fine i v at) in
      record {
        placed = λ n q h. elim (get_cases v.attempts p n (Some q) h) [
          | inl old ↦ f.placed n q old
          | inr new ↦ seat q new.1
        ];
        last = λ e n q h l. elim (get_cases v.attempts p n (Some q) h) [
          | inl old ↦ elim may.free [
            | inl dead ↦ doomed_later q (dead n (Some q) old)
            | inr other ↦ absurd (let z : true ≡ false = sym other.0 ∙ e in cc)
          ]
          | inr new ↦ absurd (let k = length-append v.attempts (p ∷ []) in let z = new.0 in omega arith)
        ];
        told = λ r e ok. absurd (let u = may.unfinished in let z : None ≡ Some (Replied r) = sym u ∙ e in cc);
      }

  fine_unanswered :
      (i : ℕ) (v : Invocation C R) (o : Outcome R) → ((r : R) → ¬ (o ≡ Replied r)) → IsFine status w' i v
      → IsFine status w' i (record v { result = Some o })
  fine_unanswered i v o none f = record {
    placed = f.placed;
    last = f.last;
    told = λ q e ok. absurd (none q (let z : Some o ≡ Some (Replied q) = e in cc));
  }

  -- it is finished with an answer that was read: that is the reply of its seat's turn
  pub fine_finished :
      (i : ℕ) (v : Invocation C R) (o : Outcome R) → w.invocations i ≡ Some v → MayFinish w v o
      → IsFine status w' i (record v { result = Some o })
  fine_finished i v (Replied r) at may =
      let f = fine_stays i v (called.fine i v at) in
      record {
        placed = f.placed;
        last = f.last;
        told = λ q e ok.
            let same : r ≡ q = cc in
            let p = may.1 in
            let read = may.4 in
            elim ((called.sound p.connection).answers read.0 p.seat r read.2) [
              | inl d ↦ (
                p,
                f.placed may.0 p may.2,
                (kept p.connection).turns p.seat (Dispatched q)
                    (subst (λ (x : R). slice_get (w.connections p.connection).turns p.seat ≡ Some (Dispatched x)) same d),
              )
              | inr d ↦
                  absurd (ok (subst (λ (x : R). IsRefusal (status x)) same ((called.sound p.connection).refused p.seat r d)))
            ];
      }
  fine_finished i v Handed at may = fine_unanswered i v Handed (λ r e. cc) (fine_stays i v (called.fine i v at))
  fine_finished i v Failed at may = fine_unanswered i v Failed (λ r e. cc) (fine_stays i v (called.fine i v at))

-- invocation i is v from now on
module _ {C R O : Type 0} (status : R → ℕ) (w w' : World C R O) (i : ℕ) (v : Invocation C R) (put : w'.invocations ≡ put_at w.invocations i (Some v)) where
  pub lists_put :
      ((u : Invocation C R) (n : ℕ) (p : Place) → w.invocations i ≡ Some u → slice_get u.attempts n ≡ Some (Some p) → slice_get v.attempts n ≡ Some (Some p))
      → (j : ℕ) (p : Place) → IsAttemptOf w j p → IsAttemptOf w' j p
  lists_put goes j p l =
      let P : Option (Invocation C R) → Type 0 =
      λ x. (u : Invocation C R) × (x ≡ Some u) × (slice_get u.attempts l.number ≡ Some (Some p)) in
      let h : P (put_at w.invocations i (Some v) j) =
      put_cases P w.invocations i (Some v) j
      (λ e. (v, refl, goes l.invocation l.number p (ap w.invocations (sym e) ∙ l.started) l.attempt))
      (λ e. (l.invocation, l.started, l.attempt)) in
      record {
        invocation = h.0;
        started = ap (λ (f : ℕ → Option (Invocation C R)). f j) put ∙ h.1;
        number = l.number;
        attempt = h.2;
      }

  pub fine_put :
      IsFine status w' i v → (j : ℕ) (u : Invocation C R) → w'.invocations j ≡ Some u
      → (w.invocations j ≡ Some u) ⊎ IsFine status w' j u
  fine_put fine j u h =
      let P : Option (Invocation C R) → Type 0 =
      λ x. x ≡ Some u → (w.invocations j ≡ Some u) ⊎ IsFine status w' j u in
      let k : P (put_at w.invocations i (Some v) j) =
      put_cases P w.invocations i (Some v) j
      (λ e s.
      let e' : v ≡ u = cc in
      inr (subst (λ (n : ℕ). IsFine status w' n u) (sym e) (subst (IsFine status w' i) e' fine)))
      (λ e s. inl s) in
      k (sym (ap (λ (f : ℕ → Option (Invocation C R)). f j) put) ∙ h)

-- connection c is k from now on
module _ {C R O : Type 0} (status : R → ℕ) (w : World C R O) (c : ℕ) (k : Connection R) where
  pub kept_put : IsKept status (w.connections c) k → (j : ℕ) → IsKept status (w.connections j) (put_at w.connections c k j)
  kept_put kept j =
      put_cases (IsKept status (w.connections j)) w.connections c k j
      (λ e. subst (λ (n : ℕ). IsKept status (w.connections n) k) (sym e) kept)
      (λ e. kept_refl status (w.connections j))

  seats_put : k.asked ≡ (w.connections c).asked
      → (p : Place) (s : Seat) → slice_get (put_at w.connections c k p.connection).asked p.seat ≡ Some s → slice_get (w.connections p.connection).asked p.seat ≡ Some s
  seats_put same p s =
      put_cases (λ x. slice_get x.asked p.seat ≡ Some s → slice_get (w.connections p.connection).asked p.seat ≡ Some s) w.connections c k p.connection
      (λ e h. ap (λ (n : ℕ). slice_get (w.connections n).asked p.seat) e ∙ (ap (λ (xs : List Seat). slice_get xs p.seat) (sym same) ∙ h))
      (λ e h. h)

  -- no seat is added
  pub called_put : (w' : World C R O) → w'.invocations ≡ w.invocations → w'.connections ≡ put_at w.connections c k
      → IsCalled status w → ((j : ℕ) → IsKept status (w.connections j) (w'.connections j)) → k.asked ≡ (w.connections c).asked → IsCalled status w'
  called_put w' same put called kept seats =
      let at : (i : ℕ) → w'.invocations i ≡ w.invocations i =
      λ i. ap (λ (f : ℕ → Option (Invocation C R)). f i) same in
      called_from status w w' called kept (λ i v h. inl (sym (at i) ∙ h))
      (λ i p l. record {
        invocation = l.invocation;
        started = at i ∙ l.started;
        number = l.number;
        attempt = l.attempt;
      })
      (λ p s h. inl (seats_put seats p s (ap (λ (f : ℕ → Connection R). slice_get (f p.connection).asked p.seat) (sym put) ∙ h)))
