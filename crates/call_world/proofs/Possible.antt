-- Lists of events that lead to a success after two dead attempts, and to a second dispatch.
use Rattle.std.proofs.Common.{◌≡◌, ℕ, zero, suc, ◌<◌, ◌≤◌, inl, inr, [], ◌∷◌, None, Some, refl, subst, arith, true, false}
use Rattle.std.specs.Prelude.{slice_get}
use Rattle.call_world.specs.Service.{Rules}
use Rattle.call_world.specs.World.{Dispatched, Sent, Validate, Answer, Close, Replied}
use Rattle.call_world.specs.Dead.{NotWhole}
use Rattle.call_world.specs.Connection.{Validates, Hands, Arrives, Answers, Reads, ClientLeaves}
use Rattle.call_world.specs.Step.{Start, Misses, Asks, Dispatches, On, Finishes}
use Rattle.call_world.specs.Possible.{CanSucceed, CanRepeat, CallsCanSucceed, CallsCanRepeat}
use Rattle.call_world.proofs.Lists.{get_within}

-- one invocation alone is different from all others
different : (m n i : ℕ) → slice_get (0 ∷ []) m ≡ Some i → slice_get (0 ∷ []) n ≡ Some i → m ≡ n
different m n i p q =
    let a = get_within (0 ∷ []) m i p in
    let b = get_within (0 ∷ []) n i q in
    omega arith

-- what is so of each of one and of two
each_of_one : {A : Type 0} (P : A → Type 0) (a : A) → P a → (n : ℕ) (x : A) → slice_get (a ∷ []) n ≡ Some x → P x
each_of_one P a p zero x h = subst P (let e : a ≡ x = cc in e) p
each_of_one P a p (suc n) x h = absurd (let z : None ≡ Some x = h in cc)

each_of_two : {A : Type 0} (P : A → Type 0) (a b : A) → P a → P b → (n : ℕ) (x : A) → slice_get (a ∷ b ∷ []) n ≡ Some x → P x
each_of_two P a b p q zero x h = subst P (let e : a ≡ x = cc in e) p
each_of_two P a b p q (suc n) x h = each_of_one P b q n x h

each_place_of_one : {A : Type 0} (P : A → Type 0) (a : A) → P a → (n : ℕ) (x : A) → slice_get (Some a ∷ []) n ≡ Some (Some x) → P x
each_place_of_one P a p zero x h = subst P (let e : a ≡ x = cc in e) p
each_place_of_one P a p (suc n) x h = absurd (let z : None ≡ Some (Some x) = h in cc)

-- where validate alone was sent, no close was, and no answer
unclosed : {R : Type 0} (n : ℕ) (m : Sent R) → m ≡ Close → ¬ (slice_get (Validate ∷ []) n ≡ Some m)
unclosed zero m e h = cc
unclosed (suc n) m e h = let z : None ≡ Some m = h in cc

unanswered : {R : Type 0} (seat n : ℕ) (r : R) → ¬ (slice_get (Validate ∷ []) n ≡ Some (Answer seat r))
unanswered seat zero r h = cc
unanswered seat (suc n) r h = let z : None ≡ Some (Answer seat r) = h in cc

no_turn : {R : Type 0} (r : R) → ¬ (None ≡ Some (Dispatched r))
no_turn r h = cc

one_within : 1 ≤ 1
one_within = omega arith

none_below : 0 < 1
none_below = omega arith

one_below : 1 < 2
one_below = omega arith

module _ {C R O : Type 0} (rules : Rules C R O) (o next_ : O) (c : C) (r : R) (may : rules.may_dispatch o c) (gives : rules.dispatches o c r next_) where
  succeeds : CanSucceed rules o c r
  succeeds = (
    _,
    _,
    (
      Start 0 c false true ∷ Misses (0 ∷ []) ∷ Asks (0 ∷ []) 0 1 ∷ On 0 ClientLeaves ∷ Asks (0 ∷ []) 1 1 ∷ On 1 Validates
          ∷ On 1 Reads ∷ On 1 (Hands 1) ∷ On 1 (Arrives 1) ∷ Dispatches 1 r next_ ∷ On 1 (Answers 0 r) ∷ On 1 Reads
          ∷ Finishes 0 (Replied r) ∷ [],
      (
        _,
        (refl, refl),
        (
          _,
          ((none_below, different, inl refl), (_, (_, refl, record { unfinished = refl; free = inl (λ n p h. cc) }, refl), refl)),
          (
            _,
            ((none_below, different, inl refl), refl, (_, (_, refl, record { unfinished = refl; free = inl (each_of_one _ None tt) }, refl, refl), refl)),
            (
              _,
              (_, (refl, refl), refl),
              (
                _,
                ((none_below, different, inl refl), refl, (_, (_, refl, record { unfinished = refl; free = inl (each_of_two _ None _ tt (NotWhole _ refl refl none_below)) }, refl, refl), refl)),
                (
                  _,
                  (_, (refl, refl, refl), refl),
                  (
                    _,
                    (_, (refl, none_below, refl), refl),
                    (
                      _,
                      (_, (refl, (0, none_below, refl), one_within, refl), refl),
                      (
                        _,
                        (_, (refl, one_within, refl), refl),
                        (
                          _,
                          (
                            _,
                            _,
                            record {
                              next = refl;
                              whole = one_within;
                              settled = λ seat q s t. absurd (no_turn q t);
                              unclosed = λ n h. unclosed n Close refl h;
                              here = refl;
                            },
                            refl,
                            may,
                            gives,
                            refl,
                          ),
                          (
                            _,
                            (_, (_, refl, refl, refl, refl, λ a. unanswered 0 a.0 a.1 a.2, refl), refl),
                            (
                              _,
                              (_, (refl, one_below, refl), refl),
                              (
                                _,
                                (_, refl, refl, (2, _, refl, refl, (1, one_below, refl)), refl),
                                refl,
                              ),
                            ),
                          ),
                        ),
                      ),
                    ),
                  ),
                ),
              ),
            ),
          ),
        ),
      ),
    ),
    refl,
    refl,
    refl,
    refl,
    refl,
  )

module _ {C R O : Type 0} (rules : Rules C R O) (o mid last : O) (c : C) (r q : R) (may : rules.may_dispatch o c) (gives : rules.dispatches o c r mid) (again : rules.may_dispatch mid c) (gives_again : rules.dispatches mid c q last) where
  repeats : CanRepeat rules o c
  repeats = (
    _,
    _,
    (
      Start 0 c true true ∷ Asks (0 ∷ []) 0 1 ∷ On 0 Validates ∷ On 0 Reads ∷ On 0 (Hands 1) ∷ On 0 (Arrives 1)
          ∷ Dispatches 0 r mid ∷ On 0 ClientLeaves ∷ Asks (0 ∷ []) 1 1 ∷ On 1 Validates ∷ On 1 Reads ∷ On 1 (Hands 1)
          ∷ On 1 (Arrives 1) ∷ Dispatches 1 q last ∷ [],
      (
        _,
        (refl, refl),
        (
          _,
          ((none_below, different, inl refl), refl, (_, (_, refl, record { unfinished = refl; free = inl (λ n p h. cc) }, refl, refl), refl)),
          (
            _,
            (_, (refl, refl, refl), refl),
            (
              _,
              (_, (refl, none_below, refl), refl),
              (
                _,
                (_, (refl, (0, none_below, refl), one_within, refl), refl),
                (
                  _,
                  (_, (refl, one_within, refl), refl),
                  (
                    _,
                    (
                      _,
                      _,
                      record {
                        next = refl;
                        whole = one_within;
                        settled = λ seat x s t. absurd (no_turn x t);
                        unclosed = λ n h. unclosed n Close refl h;
                        here = refl;
                      },
                      refl,
                      may,
                      gives,
                      refl,
                    ),
                    (
                      _,
                      (_, (refl, refl), refl),
                      (
                        _,
                        ((none_below, different, inl refl), refl, (_, (_, refl, record { unfinished = refl; free = inr (refl, each_place_of_one _ _ refl) }, refl, refl), refl)),
                        (
                          _,
                          (_, (refl, refl, refl), refl),
                          (
                            _,
                            (_, (refl, none_below, refl), refl),
                            (
                              _,
                              (_, (refl, (0, none_below, refl), one_within, refl), refl),
                              (
                                _,
                                (_, (refl, one_within, refl), refl),
                                (
                                  _,
                                  (
                                    _,
                                    _,
                                    record {
                                      next = refl;
                                      whole = one_within;
                                      settled = λ seat x s t. absurd (no_turn x t);
                                      unclosed = λ n h. unclosed n Close refl h;
                                      here = refl;
                                    },
                                    refl,
                                    again,
                                    gives_again,
                                    refl,
                                  ),
                                  refl,
                                ),
                              ),
                            ),
                          ),
                        ),
                      ),
                    ),
                  ),
                ),
              ),
            ),
          ),
        ),
      ),
    ),
    refl,
    refl,
    refl,
    refl,
  )

pub succeed_lem : {C R O : Type 0} (rules : Rules C R O) → CallsCanSucceed rules
succeed_lem rules o next_ c r may gives = succeeds rules o next_ c r may gives

pub repeat_lem : {C R O : Type 0} (rules : Rules C R O) → CallsCanRepeat rules
repeat_lem rules o mid last c r q may gives again gives_again = repeats rules o mid last c r q may gives again gives_again
