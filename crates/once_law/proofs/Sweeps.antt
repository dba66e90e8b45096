-- The calls of one message, one after the other: started, tried without a connection, asked on one, finished.
use Rattle.std.proofs.Common.{◌≡◌, ℕ, zero, suc, ◌+◌, ◌<◌, ◌≤◌, ◌⊎◌, inl, inr, List, [], ◌∷◌, ◌++◌, length, Option, None, Some, refl, ap, sym, ◌∙◌, subst, arith, Bool, false, map, append_assoc, append-nil}
use Rattle.std.specs.Prelude.{slice_get}
use Rattle.call_world.specs.Service.{Rules}
use Rattle.call_world.specs.World.{World, Connection, Seat, Place, Invocation, Outcome, Replied, Handed, Failed, put_at}
use Rattle.call_world.specs.Dead.{IsDead, IsDeadSeat}
use Rattle.call_world.specs.Connection.{seated}
use Rattle.call_world.specs.Step.{Start, Finishes, Step, MayTry, MayFinish, IsMessage, Miss, Ask, Each, tried}
use Rattle.once_law.specs.Placed.{From, Stand, place_at, invocation, invocations, seats}
use Rattle.once_law.proofs.Lists.{put_here, put_there, none_at, first_is, stand_stays, puts, mapped_more, more_long}
use Rattle.once_law.proofs.Moves.{Reach, reach_more, reach_step}

-- it holds of each
abbrev pub All : {A : Type 0} → (A → Type 0) → List A → Type 0
All Is [] = Unit {0}
All Is (x ∷ xs) = Is x × All Is xs

pub all_map : {A : Type 0} (Is Was : A → Type 0) (xs : List A) → ((x : A) → Was x → Is x) → All Was xs → All Is xs
all_map Is Was [] goes a = tt
all_map Is Was (x ∷ xs) goes a = (goes x a.0, all_map Is Was xs goes a.1)

-- ---- numbers

-- the numbers of these, from i on
abbrev pub numbers : {A : Type 0} → ℕ → List A → List ℕ
numbers i [] = []
numbers i (x ∷ xs) = i ∷ numbers (suc i) xs

number_at : {A : Type 0} (i : ℕ) (xs : List A) (n j : ℕ) → slice_get (numbers i xs) n ≡ Some j → j ≡ i + n
number_at i [] n j h = absurd (none_at n j h)
number_at i (x ∷ xs) zero j h = let e : i ≡ j = first_is i j h in omega arith
number_at i (x ∷ xs) (suc n) j h = let e = number_at (suc i) xs n j h in omega arith

numbers_long : {A : Type 0} (i : ℕ) (xs : List A) → length (numbers i xs) ≡ length xs
numbers_long i [] = refl
numbers_long i (x ∷ xs) = ap suc (numbers_long (suc i) xs)

abbrev pub asks_none : {C R : Type 0} → Invocation C R → Type 0
asks_none v = v.twoway ≡ false

module _ {C R : Type 0} where
  -- the calls of a message, before it is tried
  abbrev pub begins : Bool → ℕ → List (C × Bool) → List (Invocation C R)
  begins twoway seat xs = invocations twoway [] None seat xs

  -- finished so
  abbrev pub ended : Outcome R → Invocation C R → Invocation C R
  ended o v = record v { result = Some o }

  -- after an attempt that did not connect
  abbrev pub missed : Invocation C R → Invocation C R
  missed v = tried v None

  -- with these seats of connection c, from this one on
  abbrev pub asked_on : ℕ → ℕ → List (Invocation C R) → List (Invocation C R)
  asked_on c seat [] = []
  asked_on c seat (v ∷ vs) = tried v (Some (record { connection = c; seat = seat })) ∷ asked_on c (suc seat) vs

  abbrev pub seats_for : ℕ → ℕ → List (Invocation C R) → List Seat
  seats_for i ends [] = []
  seats_for i ends (v ∷ vs) = record { invocation = i; twoway = v.twoway; ends = ends } ∷ seats_for (suc i) ends vs

  stands_oneway : (f : ℕ → Option (Invocation C R)) (i : ℕ) (vs : List (Invocation C R)) → Stand f i vs → All asks_none vs
      → (n j : ℕ) (v : Invocation C R) → slice_get (numbers i vs) n ≡ Some j → f j ≡ Some v → v.twoway ≡ false
  stands_oneway f i [] s a n j v h g = absurd (none_at n j h)
  stands_oneway f i (u ∷ vs) s a zero j v h g =
      let e : i ≡ j = first_is i j h in
      let same : u ≡ v = first_is u v (sym s.0 ∙ (ap f e ∙ g)) in
      subst asks_none same a.0
  stands_oneway f i (u ∷ vs) s a (suc n) j v h g = stands_oneway f (suc i) vs s.1 a.1 n j v h g

module _ {C R O : Type 0} where
  pub is_message : (w : World C R O) (i : ℕ) (vs : List (Invocation C R)) → Stand w.invocations i vs → 0 < length vs
      → (length vs ≡ 1) ⊎ All asks_none vs → IsMessage w (numbers i vs)
  is_message w i vs stand some alone = (
    (let l = numbers_long i vs in omega arith),
    (λ m n j a b. let x = number_at i vs m j a in let y = number_at i vs n j b in omega arith),
    elim alone [
      | inl one ↦ inl (numbers_long i vs ∙ one)
      | inr none ↦ inr (λ n j v h g. stands_oneway w.invocations i vs stand none n j v h g)
    ],
  )

  -- ---- starting

  abbrev pub Unstarted : World C R O → ℕ → Type 0
  Unstarted w i = (j : ℕ) → i ≤ j → w.invocations j ≡ None

  abbrev pub with_calls : World C R O → (ℕ → Option (Invocation C R)) → World C R O
  with_calls w f = record w { invocations = f }

  pub starts : (rules : Rules C R O) (w : World C R O) (i : ℕ) (twoway : Bool) (seat : ℕ) (xs : List (C × Bool)) → Unstarted w i
      → Reach rules w (with_calls w (puts w.invocations i (begins twoway seat xs)))
  starts rules w i twoway seat [] free = ([], refl)
  starts rules w i twoway seat (x ∷ xs) free =
      let v : Invocation C R = invocation twoway [] None seat x in
      let w1 : World C R O = with_calls w (put_at w.invocations i (Some v)) in
      let step : Step rules w (Start i x.0 x.1 twoway) w1 = (free i (omega arith), refl) in
      let more = starts rules w1 (suc i) twoway (suc seat) xs (λ j l. put_there w.invocations i (Some v) j (λ e. omega arith) ∙ free j (omega arith)) in
      reach_more rules w w1 (with_calls w (puts w.invocations i (begins twoway seat (x ∷ xs)))) (reach_step rules w (Start i x.0 x.1 twoway) w1 step) more

  -- ---- finishing

  finish_stays : (w : World C R O) (f : ℕ → Option (Invocation C R)) (v : Invocation C R) (o : Outcome R) → MayFinish w v o → MayFinish (with_calls w f) v o
  finish_stays w f v (Replied r) h = h
  finish_stays w f v Handed h = h
  finish_stays w f v Failed h = h

  abbrev pub CanEnd : World C R O → Outcome R → Invocation C R → Type 0
  CanEnd w o v = (v.result ≡ None) × MayFinish w v o

  pub finishes : (rules : Rules C R O) (w : World C R O) (o : Outcome R) (i : ℕ) (vs : List (Invocation C R)) → Stand w.invocations i vs → All (CanEnd w o) vs
      → Reach rules w (with_calls w (puts w.invocations i (map (ended o) vs)))
  finishes rules w o i [] stand can = ([], refl)
  finishes rules w o i (v ∷ vs) stand can =
      let w1 : World C R O = with_calls w (put_at w.invocations i (Some (ended o v))) in
      let step : Step rules w (Finishes i o) w1 = (v, stand.0, can.0.0, can.0.1, refl) in
      let more = finishes rules w1 o (suc i) vs
      (stand_stays w.invocations (put_at w.invocations i (Some (ended o v))) (suc i) vs (λ j low high. put_there w.invocations i (Some (ended o v)) j (λ e. omega arith)) stand.1)
      (all_map (CanEnd w1 o) (CanEnd w o) vs (λ u h. (h.0, finish_stays w (put_at w.invocations i (Some (ended o v))) u o h.1)) can.1) in
      reach_more rules w w1 (with_calls w (puts w.invocations i (map (ended o) (v ∷ vs)))) (reach_step rules w (Finishes i o) w1 step) more

  -- ---- trying

  -- it may be tried, and has no attempt on connection c
  pub record IsAble (status : R → ℕ) (w : World C R O) (c : ℕ) (v : Invocation C R) : Type 0 where
    pub may : MayTry status w v
    pub elsewhere : (n : ℕ) (p : Place) → slice_get v.attempts n ≡ Some (Some p) → ¬ (p.connection ≡ c)

  dead_stays : (status : R → ℕ) (w w' : World C R O) (p : Option Place) → ((q : Place) → p ≡ Some q → w'.connections q.connection ≡ w.connections q.connection) → IsDead status w p → IsDead status w' p
  dead_stays status w w' None same h = tt
  dead_stays status w w' (Some q) same h = subst (λ (k : Connection R). IsDeadSeat status k q.seat) (sym (same q refl)) h

  pub able_stays : (status : R → ℕ) (w w' : World C R O) (c : ℕ) (v : Invocation C R) → ((d : ℕ) → ¬ (d ≡ c) → w'.connections d ≡ w.connections d)
      → IsAble status w c v → IsAble status w' c v
  able_stays status w w' c v same a = record {
    may = record {
      unfinished = a.may.unfinished;
      free = elim a.may.free [
        | inl dead ↦ inl (λ n p h. dead_stays status w w' p (λ q e. same q.connection (a.elsewhere n q (h ∙ ap (λ (x : Option Place). Some x) e))) (dead n p h))
        | inr left ↦ inr (left.0, λ n p h. ap (λ (k : Connection R). k.client_left) (same p.connection (a.elsewhere n p h)) ∙ left.1 n p h)
      ];
    };
    elsewhere = a.elsewhere;
  }

  pub misses : (status : R → ℕ) (w : World C R O) (c i : ℕ) (vs : List (Invocation C R)) → Stand w.invocations i vs → All (IsAble status w c) vs
      → Each (Miss status) w (numbers i vs) (with_calls w (puts w.invocations i (map missed vs)))
  misses status w c i [] stand able = refl
  misses status w c i (v ∷ vs) stand able =
      let w1 : World C R O = with_calls w (put_at w.invocations i (Some (missed v))) in (
        w1,
        (v, stand.0, able.0.may, refl),
        misses status w1 c (suc i) vs
            (stand_stays w.invocations (put_at w.invocations i (Some (missed v))) (suc i) vs (λ j low high. put_there w.invocations i (Some (missed v)) j (λ e. omega arith)) stand.1)
            (all_map (IsAble status w1 c) (IsAble status w c) vs (λ u h. able_stays status w w1 c u (λ d other. refl) h) able.1),
      )

  pub record IsAsked (status : R → ℕ) (w : World C R O) (c i : ℕ) (vs : List (Invocation C R)) (k : Connection R) : Type 0 where
    pub world : World C R O
    pub run : Each (Ask status c) w (numbers i vs) world
    pub here : world.connections c ≡ record k { asked = k.asked ++ seats_for i k.asked_bytes vs }
    pub others : (d : ℕ) → ¬ (d ≡ c) → world.connections d ≡ w.connections d
    pub calls : world.invocations ≡ puts w.invocations i (asked_on c (length k.asked) vs)

  pub asks : (status : R → ℕ) (w : World C R O) (c i : ℕ) (vs : List (Invocation C R)) (k : Connection R) → w.connections c ≡ k → k.client_left ≡ false
      → Stand w.invocations i vs → All (IsAble status w c) vs → IsAsked status w c i vs k
  asks status w c i [] k here left stand able = record {
    world = w;
    run = refl;
    here = here ∙ ap (λ (xs : List Seat). record k { asked = xs }) (sym (append-nil k.asked));
    others = λ d other. refl;
    calls = refl;
  }
  asks status w c i (v ∷ vs) k here left stand able =
      let k0 = w.connections c in
      let at : ℕ → Invocation C R = λ n. tried v (Some (record { connection = c; seat = n })) in
      let v1 : Invocation C R = at (length k0.asked) in
      let w1 : World C R O = record w {
        invocations = put_at w.invocations i (Some v1);
        connections = put_at w.connections c (seated k0 i v.twoway);
      } in
      let x : Seat = record { invocation = i; twoway = v.twoway; ends = k.asked_bytes } in
      let k1 : Connection R = record k { asked = k.asked ++ x ∷ [] } in
      let here1 : w1.connections c ≡ k1 =
      put_here w.connections c (seated k0 i v.twoway) ∙ ap (λ (y : Connection R). seated y i v.twoway) here in
      let step : Ask status c w i w1 = (v, stand.0, able.0.may, ap (λ (y : Connection R). y.client_left) here ∙ left, refl) in
      let m = asks status w1 c (suc i) vs k1 here1 left
      (stand_stays w.invocations (put_at w.invocations i (Some v1)) (suc i) vs (λ j low high. put_there w.invocations i (Some v1) j (λ e. omega arith)) stand.1)
      (all_map (IsAble status w1 c) (IsAble status w c) vs (λ u h. able_stays status w w1 c u (λ d other. put_there w.connections c (seated k0 i v.twoway) d other) h) able.1) in
      let len = more_long k.asked x in
      let e : length k1.asked ≡ suc (length k.asked) = omega arith in
      let f : length k0.asked ≡ length k.asked = ap (λ (y : Connection R). length y.asked) here in
      record {
        world = m.world;
        run = (w1, step, m.run);
        here = m.here ∙ ap (λ (xs : List Seat). record k { asked = xs }) (append_assoc k.asked (x ∷ []) (seats_for (suc i) k.asked_bytes vs));
        others = λ d other. m.others d other ∙ put_there w.connections c (seated k0 i v.twoway) d other;
        calls = m.calls
            ∙ (ap (λ (n : ℕ). puts (put_at w.invocations i (Some v1)) (suc i) (asked_on c n vs)) e
            ∙ ap (λ (n : ℕ). puts (put_at w.invocations i (Some (at n))) (suc i) (asked_on c (suc (length k.asked)) vs)) f);
      }

-- ---- the same of the calls of a message

module _ {C R : Type 0} (twoway : Bool) where
  pub missed_all : (connected : List (Option ℕ)) (seat : ℕ) (xs : List (C × Bool))
      → map missed (invocations {R = R} twoway connected None seat xs) ≡ invocations twoway (connected ++ None ∷ []) None seat xs
  missed_all connected seat [] = refl
  missed_all connected seat (x ∷ xs) =
      ap (λ (ps : List (Option Place)). record (invocation {R = R} twoway [] None seat x) { attempts = ps } ∷ map missed (invocations {R = R} twoway connected None (suc seat) xs))
      (sym (mapped_more (place_at seat) connected None))
      ∙ ap (λ (vs : List (Invocation C R)). invocation twoway (connected ++ None ∷ []) None seat x ∷ vs) (missed_all connected (suc seat) xs)

  pub asked_all : (c : ℕ) (connected : List (Option ℕ)) (seat : ℕ) (xs : List (C × Bool))
      → asked_on c seat (invocations {R = R} twoway connected None seat xs) ≡ invocations twoway (connected ++ Some c ∷ []) None seat xs
  asked_all c connected seat [] = refl
  asked_all c connected seat (x ∷ xs) =
      ap (λ (ps : List (Option Place)). record (invocation {R = R} twoway [] None seat x) { attempts = ps } ∷ asked_on c (suc seat) (invocations {R = R} twoway connected None (suc seat) xs))
      (sym (mapped_more (place_at seat) connected (Some c)))
      ∙ ap (λ (vs : List (Invocation C R)). invocation twoway (connected ++ Some c ∷ []) None seat x ∷ vs) (asked_all c connected (suc seat) xs)

  pub ended_all : (o : Outcome R) (connected : List (Option ℕ)) (seat : ℕ) (xs : List (C × Bool))
      → map (ended o) (invocations {R = R} twoway connected None seat xs) ≡ invocations twoway connected (Some o) seat xs
  ended_all o connected seat [] = refl
  ended_all o connected seat (x ∷ xs) = ap (λ (vs : List (Invocation C R)). invocation twoway connected (Some o) seat x ∷ vs) (ended_all o connected (suc seat) xs)

  -- what is so of each call by its seat is so of each invocation
  pub all_calls : (Is : Invocation C R → Type 0) (connected : List (Option ℕ)) (result : Option (Outcome R)) (seat : ℕ) (xs : List (C × Bool))
      → From (λ (n : ℕ) (x : C × Bool). Is (invocation twoway connected result n x)) seat xs → All Is (invocations twoway connected result seat xs)
  all_calls Is connected result seat [] h = tt
  all_calls Is connected result seat (x ∷ xs) h = (h.0, all_calls Is connected result (suc seat) xs h.1)

pub seats_all : {C : Type 0} (R : Type 0) (twoway : Bool) (i ends : ℕ) (connected : List (Option ℕ)) (seat : ℕ) (xs : List (C × Bool))
    → seats_for i ends (invocations {R = R} twoway connected None seat xs) ≡ seats i twoway ends xs
seats_all R twoway i ends connected seat [] = refl
seats_all R twoway i ends connected seat (x ∷ xs) =
    ap (λ (ss : List Seat). record { invocation = i; twoway = twoway; ends = ends } ∷ ss) (seats_all R twoway (suc i) ends connected (suc seat) xs)
