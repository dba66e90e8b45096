-- A run in which the server gives turns and answers in order.
use Rattle.std.proofs.Common.{◌≡◌, ℕ, suc, ◌+◌, ◌≤◌, ◌⊎◌, inl, inr, List, [], ◌∷◌, ◌++◌, length, Option, Some, refl, ap, sym, ◌∙◌, subst, arith, Bool, true, false, append_assoc, append-nil, length-append}
use Rattle.std.specs.Prelude.{slice_get, ◌==◌}
use Rattle.std.proofs.lemmas.Bool.Decides.{Decides-eqb}
use Rattle.call_world.specs.Service.{IsRefusal, free_rules}
use Rattle.call_world.specs.World.{World, Connection, Seat, Turn, Dispatched, Refused, Sent, Answer, Close, Invocation, put_at}
use Rattle.call_world.specs.Connection.{ConnectionEvent, ConnectionStep, Answers, IsAnswered, IsSettled, IsOpen, IsReady, says, turned, refused}
use Rattle.call_world.specs.Step.{Event, Dispatches, Refuses, On, Step, IsReached}
use Rattle.call_world.specs.Reached.{IsSound}
use Rattle.call_world.proofs.Lists.{get_old, get_last, get_cases, get_within}
use Rattle.call_world.proofs.Runs.{sound_lem}
use Rattle.call_world.specs.Asked.{Wanted, told, twoways_of}
use Rattle.call_world.proofs.Building.{put_here, put_there, reach}

-- from w a world is reached in which connection 0 is k; the other connections and the invocations are as in w
pub record Moved {C R : Type 0} (status : R → ℕ) (w : World C R (Unit {0})) (k : Connection R) : Type 0 where
  pub world : World C R (Unit {0})
  pub reached : IsReached (free_rules status) tt world
  pub here : world.connections 0 ≡ k
  pub others : (d : ℕ) → ¬ (d ≡ 0) → world.connections d ≡ w.connections d
  pub invocations : world.invocations ≡ w.invocations

moved_more : {C R : Type 0} (status : R → ℕ) (w : World C R (Unit {0})) (k k' : Connection R) (m : Moved status w k) (e : Event C R (Unit {0})) (w' : World C R (Unit {0}))
    → Step (free_rules status) m.world e w' → w'.connections ≡ put_at m.world.connections 0 k' → w'.invocations ≡ m.world.invocations → Moved status w k'
moved_more {C} {R} status w k k' m e w' step conns invs =
    let at : (d : ℕ) → w'.connections d ≡ put_at m.world.connections 0 k' d = λ d. ap (λ (f : ℕ → Connection R). f d) conns in
    record {
      world = w';
      reached = reach (free_rules status) tt m.world e w' m.reached step;
      here = at 0 ∙ put_here m.world.connections 0 k';
      others = λ d other. at d ∙ (put_there m.world.connections 0 k' d other ∙ m.others d other);
      invocations = invs ∙ m.invocations;
    }

pub moved_on : {C R : Type 0} (status : R → ℕ) (w : World C R (Unit {0})) (k : Connection R) (e : ConnectionEvent R) (k' : Connection R) → ConnectionStep k e k' → Moved status w k → Moved status w k'
moved_on {C} {R} status w k e k' step m =
    let w' : World C R (Unit {0}) = record m.world { connections = put_at m.world.connections 0 k' } in
    moved_more status w k k' m (On 0 e) w' (k', subst (λ (x : Connection R). ConnectionStep x e k') (sym m.here) step, refl) refl refl

moved_dispatch : {C R : Type 0} (status : R → ℕ) (w : World C R (Unit {0})) (k : Connection R) (seat : Seat) (v : Invocation C R) (r : R)
    → IsReady k seat → w.invocations seat.invocation ≡ Some v → ¬ IsRefusal (status r)
    → Moved status w k → Moved status w (turned k (Dispatched r))
unfolding free_rules
moved_dispatch {C} {R} status w k seat v r ready at good m =
    let k0 = m.world.connections 0 in
    let w' : World C R (Unit {0}) = record m.world {
      connections = put_at m.world.connections 0 (turned k0 (Dispatched r));
      dispatches = m.world.dispatches ++ record { connection = 0; seat = length k0.turns; reply = r } ∷ [];
      objects = tt;
    } in
    moved_more status w k (turned k (Dispatched r)) m (Dispatches 0 r tt) w'
    (seat, v, subst (λ (x : Connection R). IsReady x seat) (sym m.here) ready, ap (λ (f : ℕ → Option (Invocation C R)). f seat.invocation) m.invocations ∙ at, tt, good, refl)
    (ap (λ (x : Connection R). put_at m.world.connections 0 (turned x (Dispatched r))) m.here) refl

moved_refuse : {C R : Type 0} (status : R → ℕ) (w : World C R (Unit {0})) (k : Connection R) (seat : Seat) (v : Invocation C R) (r : R)
    → IsReady k seat → seat.twoway ≡ true → w.invocations seat.invocation ≡ Some v → IsRefusal (status r)
    → Moved status w k → Moved status w (refused k true r)
unfolding free_rules
moved_refuse {C} {R} status w k seat v r ready two at bad m =
    let k0 = m.world.connections 0 in
    let w' : World C R (Unit {0}) = record m.world { connections = put_at m.world.connections 0 (refused k0 seat.twoway r) } in
    moved_more status w k (refused k true r) m (Refuses 0 r) w'
    (seat, v, subst (λ (x : Connection R). IsReady x seat) (sym m.here) ready, ap (λ (f : ℕ → Option (Invocation C R)). f seat.invocation) m.invocations ∙ at, tt, bad, refl)
    (ap (λ (x : Connection R). put_at m.world.connections 0 (refused x seat.twoway r)) m.here
    ∙ ap (λ (b : Bool). put_at m.world.connections 0 (refused k b r)) two) refl

-- ---- a connection that is served

pub record IsServing {R : Type 0} (k : Connection R) : Type 0 where
  pub whole : (n : ℕ) (s : Seat) → slice_get k.asked n ≡ Some s → s.ends ≤ k.arrived
  pub settled : IsSettled k
  pub unclosed : IsOpen k
  pub here : k.server_left ≡ false

-- it goes on with this connection, on which the same was asked
pub record GoesOn {C R : Type 0} (status : R → ℕ) (w : World C R (Unit {0})) (k : Connection R) (more : List (Sent R)) : Type 0 where
  pub next_ : Connection R
  pub moved : Moved status w next_
  pub serving : IsServing next_
  pub asked : next_.asked ≡ k.asked
  pub handed : next_.handed ≡ k.handed
  pub answered : next_.answered ≡ k.answered ++ more

is_ready : {R : Type 0} (k : Connection R) (s : Seat) → IsServing k → slice_get k.asked (length k.turns) ≡ Some s → IsReady k s
is_ready k s serving at = record {
  next = at;
  whole = serving.whole (length k.turns) s at;
  settled = serving.settled;
  unclosed = serving.unclosed;
  here = serving.here;
}

refusal : (n : ℕ) → IsRefusal n ⊎ (¬ IsRefusal n)
refusal n = either (n == 2) (n == 3) refl refl where
  either : (a b : Bool) → (n == 2) ≡ a → (n == 3) ≡ b → IsRefusal n ⊎ (¬ IsRefusal n)
  either true b p q = inl (inl ((Decides-eqb n 2).0 p))
  either false true p q = inl (inr ((Decides-eqb n 3).0 q))
  either false false p q = inr (λ h. elim h [
    | inl e ↦ let t = (Decides-eqb n 2).1 e in let z : true ≡ false = sym t ∙ p in cc
    | inr e ↦ let t = (Decides-eqb n 3).1 e in let z : true ≡ false = sym t ∙ q in cc
  ])

-- a call that asks for no reply is dispatched
serving_oneway : {R : Type 0} (k : Connection R) (s : Seat) (r : R) → IsServing k → slice_get k.asked (length k.turns) ≡ Some s → s.twoway ≡ false → IsServing (turned k (Dispatched r))
serving_oneway {R} k s r serving at one = record {
  whole = serving.whole;
  settled = λ n q x h asked two. elim (get_cases k.turns (Dispatched r) n (Dispatched q) h) [
    | inl old ↦ serving.settled n q x old asked two
    | inr new ↦ absurd (
        let z : Some s ≡ Some x = sym at ∙ (ap (slice_get k.asked) (sym new.0) ∙ asked) in
        let same : s ≡ x = cc in
        let y : true ≡ false = sym two ∙ (ap (λ (u : Seat). u.twoway) (sym same) ∙ one) in cc)
  ];
  unclosed = serving.unclosed;
  here = serving.here;
}

-- a call that asks for a reply has its turn and its answer
serving_twoway : {R : Type 0} (k : Connection R) (t : Turn R) (r : R) → IsServing k → IsServing (says (turned k t) (Answer (length k.turns) r))
serving_twoway {R} k t r serving = record {
  whole = serving.whole;
  settled = λ n q x h asked two. elim (get_cases k.turns t n (Dispatched q) h) [
    | inl old ↦
        let a = serving.settled n q x old asked two in
        (a.0, a.1, get_old k.answered (Answer (length k.turns) r) a.0 (Answer n a.1) a.2)
    | inr new ↦
        (length k.answered, r, get_last k.answered (Answer (length k.turns) r) ∙ ap (λ (m : ℕ). Some (Answer m r)) (sym new.0))
  ];
  unclosed = λ n h. elim (get_cases k.answered (Answer (length k.turns) r) n Close h) [
    | inl old ↦ serving.unclosed n old
    | inr new ↦ let z = new.1 in cc
  ];
  here = serving.here;
}

-- no seat without a turn is answered
unanswered : {C R : Type 0} (status : R → ℕ) (w : World C R (Unit {0})) (k : Connection R) (m : Moved status w k) → ¬ IsAnswered k (length k.turns)
unfolding free_rules
unanswered {C} {R} status w k m (n, r, h) =
    let sound : IsSound status k = subst (IsSound status) m.here (sound_lem (free_rules status) tt m.world m.reached 0) in
    elim (sound.answers n (length k.turns) r h) [
      | inl t ↦ let l = get_within k.turns (length k.turns) (Dispatched r) t in omega arith
      | inr t ↦ let l = get_within k.turns (length k.turns) (Refused r) t in omega arith
    ]

moved_twoway : {C R : Type 0} (status : R → ℕ) (w : World C R (Unit {0})) (k : Connection R) (s : Seat) (v : Invocation C R) (r : R)
    → IsServing k → slice_get k.asked (length k.turns) ≡ Some s → s.twoway ≡ true → w.invocations s.invocation ≡ Some v
    → Moved status w k → (t : Turn R) × Moved status w (says (turned k t) (Answer (length k.turns) r))
moved_twoway {C} {R} status w k s v r serving at two started m = elim (refusal (status r)) [
  | inl bad ↦ (Refused r, moved_refuse status w k s v r (is_ready k s serving at) two started bad m)
  | inr good ↦
      let m1 = moved_dispatch status w k s v r (is_ready k s serving at) started good m in
      let first : ¬ IsAnswered (turned k (Dispatched r)) (length k.turns) = unanswered status w k m in (
        Dispatched r,
        moved_on status w (turned k (Dispatched r)) (Answers (length k.turns) r) (says (turned k (Dispatched r)) (Answer (length k.turns) r))
            (s, serving.here, get_last k.turns (Dispatched r), at, two, first, refl) m1,
      )
]

-- these calls come next
abbrev pub Awaits : {C R : Type 0} → World C R (Unit {0}) → Connection R → List (Wanted C) → Type 0
Awaits {C} {R} w k xs =
    (n : ℕ) (x : Wanted C) → slice_get xs n ≡ Some x
    → (s : Seat) × (v : Invocation C R) × (slice_get k.asked (length k.turns + n) ≡ Some s) × (s.twoway ≡ x.twoway) × (w.invocations s.invocation ≡ Some v)

told_none : {R : Type 0} (seat : ℕ) (ts : List Bool) → told {R = R} seat ts [] ≡ []
told_none seat [] = refl
told_none seat (true ∷ ts) = refl
told_none seat (false ∷ ts) = told_none (suc seat) ts

stay : {C R : Type 0} (status : R → ℕ) (w : World C R (Unit {0})) (k : Connection R) (more : List (Sent R)) → more ≡ [] → IsServing k → Moved status w k → GoesOn status w k more
stay {C} {R} status w k more none serving m = record {
  next_ = k;
  moved = m;
  serving = serving;
  asked = refl;
  handed = refl;
  answered = sym (ap (λ (ms : List (Sent R)). k.answered ++ ms) none ∙ append-nil k.answered);
}

serve_next : {C R : Type 0} (status : R → ℕ) (other : R) → ¬ IsRefusal (status other) → (w : World C R (Unit {0})) (k : Connection R) (x : Wanted C) (xs : List (Wanted C)) (r : R) (rs : List R)
    → ((k1 : Connection R) (others : List R) → IsServing k1 → Awaits w k1 xs → Moved status w k1 → GoesOn status w k1 (told (length k1.turns) (twoways_of xs) others))
    → IsServing k → Awaits w k (x ∷ xs) → Moved status w k → (b : Bool) → x.twoway ≡ b → GoesOn status w k (told (length k.turns) (b ∷ twoways_of xs) (r ∷ rs))
serve_next {C} {R} status other good w k x xs r rs go serving awaits m false one =
    let a = awaits 0 x refl in
    let s = a.0 in
    let at : slice_get k.asked (length k.turns) ≡ Some s = ap (slice_get k.asked) (let e : length k.turns ≡ length k.turns + 0 = omega arith in e) ∙ a.2 in
    let k1 = turned k (Dispatched other) in
    let len = length-append k.turns (Dispatched other ∷ []) in
    let e : length k1.turns ≡ suc (length k.turns) = omega arith in
    let g = go k1 (r ∷ rs) (serving_oneway k s other serving at (a.3 ∙ one))
    (λ n y h. let b = awaits (suc n) y h in (b.0, b.1, ap (slice_get k.asked) (let q : length k1.turns + n ≡ length k.turns + suc n = omega arith in q) ∙ b.2, b.3, b.4))
    (moved_dispatch status w k s a.1 other (is_ready k s serving at) a.4 good m) in
    record {
      next_ = g.next_;
      moved = g.moved;
      serving = g.serving;
      asked = g.asked;
      handed = g.handed;
      answered = g.answered ∙ ap (λ (n : ℕ). k.answered ++ told n (twoways_of xs) (r ∷ rs)) e;
    }
serve_next {C} {R} status other good w k x xs r rs go serving awaits m true two =
    let a = awaits 0 x refl in
    let s = a.0 in
    let at : slice_get k.asked (length k.turns) ≡ Some s = ap (slice_get k.asked) (let e : length k.turns ≡ length k.turns + 0 = omega arith in e) ∙ a.2 in
    let mt = moved_twoway status w k s a.1 r serving at (a.3 ∙ two) a.4 m in
    let t = mt.0 in
    let k1 = says (turned k t) (Answer (length k.turns) r) in
    let len = length-append k.turns (t ∷ []) in
    let e : length k1.turns ≡ suc (length k.turns) = omega arith in
    let g = go k1 rs (serving_twoway k t r serving)
    (λ n y h. let b = awaits (suc n) y h in (b.0, b.1, ap (slice_get k.asked) (let q : length k1.turns + n ≡ length k.turns + suc n = omega arith in q) ∙ b.2, b.3, b.4))
    mt.1 in
    record {
      next_ = g.next_;
      moved = g.moved;
      serving = g.serving;
      asked = g.asked;
      handed = g.handed;
      answered = g.answered
          ∙ (append_assoc k.answered (Answer (length k.turns) r ∷ []) (told (length k1.turns) (twoways_of xs) rs)
          ∙ ap (λ (n : ℕ). k.answered ++ Answer (length k.turns) r ∷ told n (twoways_of xs) rs) e);
    }

pub serve : {C R : Type 0} (status : R → ℕ) (other : R) → ¬ IsRefusal (status other) → (w : World C R (Unit {0})) (k : Connection R) (xs : List (Wanted C)) (rs : List R)
    → IsServing k → Awaits w k xs → Moved status w k → GoesOn status w k (told (length k.turns) (twoways_of xs) rs)
serve status other good w k [] rs serving awaits m = stay status w k [] refl serving m
serve status other good w k (x ∷ xs) [] serving awaits m =
    stay status w k (told (length k.turns) (twoways_of (x ∷ xs)) []) (told_none (length k.turns) (twoways_of (x ∷ xs))) serving m
serve status other good w k (x ∷ xs) (r ∷ rs) serving awaits m =
    serve_next status other good w k x xs r rs (λ k1 others a b c. serve status other good w k1 xs others a b c) serving awaits m x.twoway refl
