-- The attempts at one message, one after the other.
use Rattle.std.proofs.Common.{◌≡◌, ℕ, zero, suc, ◌+◌, ◌<◌, ◌≤◌, ◌⊎◌, inl, inr, List, [], ◌∷◌, ◌++◌, length, Option, None, Some, refl, ap, sym, ◌∙◌, subst, arith, Bool, true, false, map, zero-add, append_assoc, append-nil}
use Rattle.std.specs.Prelude.{slice_get}
use Rattle.call_world.specs.Service.{free_rules}
use Rattle.call_world.specs.World.{World, Connection, Seat, Turn, Validate, Answer, Close, Place, Invocation, put_at, fresh}
use Rattle.call_world.specs.Dead.{HasRead, IsDead, IsDeadSeat, NotWhole, Closed, Stale}
use Rattle.call_world.specs.Connection.{begun}
use Rattle.call_world.specs.Step.{Misses, Asks, Step, IsMessage}
use Rattle.call_world.proofs.Lists.{get_cases, get_within}
use Rattle.once_law.specs.Placed.{From, Stand, place_at, invocation, invocations, seats, after, connections, after_all}
use Rattle.once_law.proofs.Lists.{none_some, true_false, false_true, put_here, put_there, first_is, from_each, each_from, stand_stays, puts, puts_below, puts_above, puts_stand, get_mapped, invocations_long, seat_at, seats_long, get_some, after_rises, all_rises}
use Rattle.once_law.proofs.Links.{Link, said, said_at, conn, linked, IsLink, HasAnswer, HasClose, IsGone, AreRepeatable, AreLinks, LinkAt, LinksAt}
use Rattle.once_law.proofs.Moves.{Reach, reach_more, reach_step}
use Rattle.once_law.proofs.Serving.{AreAsked, carried}
use Rattle.once_law.proofs.Sweeps.{All, numbers, is_message, asks_none, IsAble, missed, misses, seats_for, asks, missed_all, asked_all, seats_all}

-- ---- what a client can tell of its attempts

-- the call in this seat may be tried again
abbrev pub MayAgain : {C R : Type 0} → (R → ℕ) → Connection R → ℕ → C × Bool → Type 0
MayAgain status k seat x = (x.1 ≡ true) ⊎ IsDeadSeat status k seat

-- so it is of each call of the message
abbrev pub AreOver : {C R : Type 0} → (R → ℕ) → Connection R → ℕ → List (C × Bool) → Type 0
AreOver {C} status k seat xs = From (λ (n : ℕ) (x : C × Bool). MayAgain status k n x) seat xs

-- the earlier attempts of the calls from this seat on: their connections stand below c, and the client has left them
abbrev pub Past : {C R : Type 0} → (R → ℕ) → (ℕ → Connection R) → ℕ → List (Option ℕ) → ℕ → List (C × Bool) → Type 0
Past status items c connected seat xs =
    (n d : ℕ) → slice_get connected n ≡ Some (Some d)
    → (d < c) × ((items d).client_left ≡ true) × AreOver status (items d) seat xs

module _ {C R : Type 0} (status : R → ℕ) (i size : ℕ) (xs : List (C × Bool)) where
  close_read : (l : Link R) → HasClose true l → HasRead (linked (seats i true size xs) true size l) Close
  close_read l (two, read, served) = (1, omega arith, ap (λ (s : Option (List (Turn R) × Bool)). slice_get (said_at true s) 1) served)

  close_alone : (n seat : ℕ) (r : R) → n < 2 → ¬ (slice_get (said {R = R} true [] true) n ≡ Some (Answer seat r))
  close_alone zero seat r l e = let z : Some Validate ≡ Some (Answer seat r) = e in cc
  close_alone (suc zero) seat r l e = let z : Some Close ≡ Some (Answer seat r) = e in cc
  close_alone (suc (suc n)) seat r l e = omega arith

  unanswered : (l : Link R) → HasClose true l → (seat : ℕ) (r : R) → ¬ HasRead (linked (seats i true size xs) true size l) (Answer seat r)
  unanswered l (two, read, served) seat r (n, within, at) =
      close_alone n seat r (omega arith) (sym (ap (λ (s : Option (List (Turn R) × Bool)). slice_get (said_at true s) n) served) ∙ at)

  pub answer_read : (l : Link R) (r : R) → HasAnswer true l r → HasRead (linked (seats i true size xs) true size l) (Answer 0 r)
  answer_read l r (t, closes, two, read, served, reply) = (
    1,
    omega arith,
    ap (λ (s : Option (List (Turn R) × Bool)). slice_get (said_at true s) 1) served ∙ ap (λ (q : R). Some (Answer 0 q)) reply,
  )

  -- each seat of an attempt that is gone is dead
  dead_seat : (twoway : Bool) (l : Link R) → (twoway ≡ true → length xs ≡ 1) → IsGone status twoway size l → (n : ℕ) → n < length xs
      → IsDeadSeat status (linked (seats i twoway size xs) twoway size l) n
  dead_seat true l alone gone n within =
      let s = seat_at i true size xs n within in
      let ends = s.ends in
      elim gone [
        | inl short ↦ NotWhole s.seat s.at refl (omega arith)
        | inr rest ↦ elim rest [
          | inl close ↦ Closed s.seat s.at s.asks (close_read l close) (λ r. unanswered l close n r)
          | inr answer ↦
              let one = alone refl in
              let first : 0 ≡ n = omega arith in
              subst (λ (m : ℕ). IsDeadSeat status (linked (seats i true size xs) true size l) m) first
              (Stale answer.0 (answer_read l answer.0 answer.1) answer.2)
        ]
      ]
  dead_seat false l alone gone n within =
      let s = seat_at i false size xs n within in
      let ends = s.ends in
      elim gone [
        | inl short ↦ NotWhole s.seat s.at refl (omega arith)
        | inr rest ↦ elim rest [
          | inl close ↦ absurd (false_true close.0)
          | inr answer ↦ absurd (false_true answer.1.2)
        ]
      ]

  over : (twoway : Bool) (l : Link R) → (twoway ≡ true → length xs ≡ 1) → AreRepeatable xs ⊎ IsGone status twoway size l
      → AreOver status (linked (seats i twoway size xs) twoway size l) 0 xs
  over twoway l alone may =
      from_each (λ (n : ℕ) (x : C × Bool). MayAgain status (linked (seats i twoway size xs) twoway size l) n x) 0 xs (λ q x h. elim may [
        | inl again ↦ inl (each_from (λ (n : ℕ) (y : C × Bool). y.1 ≡ true) 0 xs again q x h)
        | inr gone ↦ let w = get_within xs q x h in inr (dead_seat twoway l alone gone (0 + q) (omega arith))
      ])

-- ---- each call may be tried again

module _ {C R : Type 0} (status : R → ℕ) (w : World C R (Unit {0})) (c : ℕ) (twoway : Bool) (connected : List (Option ℕ)) where
  place_is : (seat : ℕ) (t : Option ℕ) (p : Place) → place_at seat t ≡ Some p → (t ≡ Some p.connection) × (p.seat ≡ seat)
  place_is seat None p e = absurd (none_some e)
  place_is seat (Some d) p e =
      let z : record { connection = d; seat = seat } ≡ p = first_is (record { connection = d; seat = seat }) p e in
      (ap (λ (q : Place). Some q.connection) z, sym (ap (λ (q : Place). q.seat) z))

  -- where the n-th attempt of the call in this seat stands
  attempt_is : (seat n : ℕ) (p : Place) → slice_get (map (place_at seat) connected) n ≡ Some (Some p) → (slice_get connected n ≡ Some (Some p.connection)) × (p.seat ≡ seat)
  attempt_is seat n p h =
      let g = get_mapped (place_at seat) connected n (Some p) h in
      let q = place_is seat g.0 p g.2 in
      (g.1 ∙ ap (λ (t : Option ℕ). Some t) q.0, q.1)

  all_dead : (seat : ℕ) (x : C × Bool) → x.1 ≡ false
      → ((n d : ℕ) → slice_get connected n ≡ Some (Some d) → MayAgain status (w.connections d) seat x)
      → (n : ℕ) (p : Option Place) → slice_get (map (place_at seat) connected) n ≡ Some p → IsDead status w p
  all_dead seat x once past n None h = tt
  all_dead seat x once past n (Some p) h =
      let a = attempt_is seat n p h in
      elim (past n p.connection a.0) [
        | inl again ↦ absurd (true_false (sym again ∙ once))
        | inr dead ↦ subst (λ (m : ℕ). IsDeadSeat status (w.connections p.connection) m) (sym a.1) dead
      ]

  able : (seat : ℕ) (x : C × Bool) (b : Bool) → x.1 ≡ b
      → ((n d : ℕ) → slice_get connected n ≡ Some (Some d) → (d < c) × ((w.connections d).client_left ≡ true) × MayAgain status (w.connections d) seat x)
      → IsAble status w c (invocation twoway connected None seat x)
  able seat x true again past = record {
    may = record {
      unfinished = refl;
      free = inr (again, λ n p h. let a = attempt_is seat n p h in (past n p.connection a.0).1);
    };
    elsewhere = λ n p h e. let a = attempt_is seat n p h in let l = (past n p.connection a.0).0 in omega arith;
  }
  able seat x false once past = record {
    may = record {
      unfinished = refl;
      free = inl (all_dead seat x once (λ n d h. (past n d h).2));
    };
    elsewhere = λ n p h e. let a = attempt_is seat n p h in let l = (past n p.connection a.0).0 in omega arith;
  }

  pub all_able : (seat : ℕ) (xs : List (C × Bool)) → Past status w.connections c connected seat xs
      → All (IsAble status w c) (invocations twoway connected None seat xs)
  all_able seat [] past = tt
  all_able seat (x ∷ xs) past = (
    able seat x x.1 refl (λ n d h. let z = past n d h in (z.0, z.1, z.2.0)),
    all_able (suc seat) xs (λ n d h. let z = past n d h in (z.0, z.1, z.2.1)),
  )

  pub all_oneway : (seat : ℕ) (xs : List (C × Bool)) → twoway ≡ false → All asks_none (invocations {R = R} twoway connected None seat xs)
  all_oneway seat [] e = tt
  all_oneway seat (x ∷ xs) e = (e, all_oneway (suc seat) xs e)

-- ---- one message on a new connection

module _ {C R : Type 0} (status : R → ℕ) (twoway : Bool) (size : ℕ) (xs : List (C × Bool)) (some : 0 < length xs) (alone : twoway ≡ true → length xs ≡ 1) (i : ℕ) where
  -- the message's calls, after these attempts
  abbrev calls : List (Option ℕ) → List (Invocation C R)
  calls connected = invocations twoway connected None 0 xs

  message : (w : World C R (Unit {0})) (connected : List (Option ℕ)) (b : Bool) → twoway ≡ b → Stand w.invocations i (calls connected)
      → IsMessage w (numbers i (calls connected))
  message w connected true two stand =
      let long = invocations_long {C = C} {R = R} twoway connected None 0 xs in
      is_message w i (calls connected) stand (omega arith) (inl (long ∙ alone two))
  message w connected false none stand =
      let long = invocations_long {C = C} {R = R} twoway connected None 0 xs in
      is_message w i (calls connected) stand (omega arith) (inr (all_oneway status w 0 twoway connected 0 xs none))

  are_asked : (w : World C R (Unit {0})) (connected : List (Option ℕ)) → Stand w.invocations i (calls connected) → AreAsked w (seats i twoway size xs) twoway size
  are_asked w connected stand = record {
    each = λ n s h.
        let l = get_within (seats i twoway size xs) n s h in
        let long = seats_long i twoway size xs in
        let q = seat_at i twoway size xs n (omega arith) in
        let same : q.seat ≡ s = first_is q.seat s (sym q.at ∙ h) in
        let many = invocations_long {C = C} {R = R} twoway connected None 0 xs in
        let v = get_call w connected stand n (omega arith) in (
          sym (ap (λ (z : Seat). z.twoway) same) ∙ q.asks,
          sym (ap (λ (z : Seat). z.ends) same) ∙ q.ends,
          (v.0, ap w.invocations (sym (ap (λ (z : Seat). z.invocation) same) ∙ q.own) ∙ v.1),
        );
  } where
    get_call : (w : World C R (Unit {0})) (connected : List (Option ℕ)) → Stand w.invocations i (calls connected) → (n : ℕ) → n < length (calls connected)
        → (v : Invocation C R) × (w.invocations (i + n) ≡ Some v)
    get_call w connected stand n l =
        let g = get_some (calls connected) n l in
        (g.0, each_from (λ (j : ℕ) (v : Invocation C R). w.invocations j ≡ Some v) i (calls connected) stand n g.0 g.1)

  -- connection c carried the message so far; the calls have one attempt more
  record Carried (w : World C R (Unit {0})) (c : ℕ) (connected : List (Option ℕ)) (l : Link R) : Type 0 where
    world : World C R (Unit {0})
    reach : Reach (free_rules status) w world
    here : world.connections c ≡ linked (seats i twoway size xs) twoway size l
    others : (d : ℕ) → ¬ (d ≡ c) → world.connections d ≡ w.connections d
    stand : Stand world.invocations i (calls (connected ++ Some c ∷ []))
    rest : (j : ℕ) → (j < i) ⊎ (i + length xs ≤ j) → world.invocations j ≡ w.invocations j

  -- elsewhere nothing was put
  puts_rest : (f : ℕ → Option (Invocation C R)) (vs : List (Invocation C R)) (j : ℕ) → length vs ≡ length xs → (j < i) ⊎ (i + length xs ≤ j) → puts f i vs j ≡ f j
  puts_rest f vs j long h = elim h [
    | inl below ↦ puts_below f i vs j below
    | inr above ↦ puts_above f i vs j (omega arith)
  ]

  carry : (w : World C R (Unit {0})) (c : ℕ) (connected : List (Option ℕ)) (l : Link R) → w.connections c ≡ fresh → Stand w.invocations i (calls connected)
      → Past status w.connections c connected 0 xs → IsLink status twoway size (length xs) l → Carried w c connected l
  unfolding free_rules
  carry w c connected l new stand past fits =
      let vs = calls connected in
      let next_ = calls (connected ++ Some c ∷ []) in
      let k : Connection R = begun fresh size in
      let w0 : World C R (Unit {0}) = record w { connections = put_at w.connections c (begun (w.connections c) size) } in
      let here0 : w0.connections c ≡ k = put_here w.connections c (begun (w.connections c) size) ∙ ap (λ (y : Connection R). begun y size) new in
      let other0 : (d : ℕ) → ¬ (d ≡ c) → w0.connections d ≡ w.connections d = λ d other. put_there w.connections c (begun (w.connections c) size) d other in
      let low : (d : ℕ) → d < c → w0.connections d ≡ w.connections d = λ d l. other0 d (λ e. omega arith) in
      let past0 : Past status w0.connections c connected 0 xs = λ n d h.
      let z = past n d h in
      let same = low d z.0 in
      (z.0, ap (λ (y : Connection R). y.client_left) same ∙ z.1, subst (λ (y : Connection R). AreOver status y 0 xs) (sym same) z.2) in
      let a = asks status w0 c i vs k here0 refl stand (all_able status w0 c twoway connected 0 xs past0) in
      let step : Step (free_rules status) w (Asks (numbers i vs) c size) a.world =
      (message w connected twoway refl stand, ap (λ (y : Connection R). y.client_left) new, a.run) in
      let here1 : a.world.connections c ≡ conn (seats i twoway size xs) size 0 0 [] [] 0 false =
      a.here ∙ (ap (λ (n : ℕ). conn {R = R} (seats_for i n vs) n 0 0 [] [] 0 false) (zero-add size)
      ∙ ap (λ (ss : List Seat). conn {R = R} ss size 0 0 [] [] 0 false) (seats_all R twoway i size connected 0 xs)) in
      let calls1 : a.world.invocations ≡ puts w.invocations i next_ =
      a.calls ∙ ap (λ (us : List (Invocation C R)). puts w.invocations i us) (asked_all twoway c connected 0 xs) in
      let at1 : (j : ℕ) → a.world.invocations j ≡ puts w.invocations i next_ j = λ j. ap (λ (f : ℕ → Option (Invocation C R)). f j) calls1 in
      let stand1 : Stand a.world.invocations i next_ =
      stand_stays (puts w.invocations i next_) a.world.invocations i next_ (λ j p q. at1 j) (puts_stand w.invocations i next_) in
      let long = seats_long i twoway size xs in
      let m = carried status a.world c size (seats i twoway size xs) twoway l (are_asked a.world (connected ++ Some c ∷ []) stand1)
      (λ two. long ∙ alone two) (subst (λ (n : ℕ). IsLink status twoway size n l) (sym long) fits) here1 in
      let at2 : (j : ℕ) → m.world.invocations j ≡ a.world.invocations j = λ j. ap (λ (f : ℕ → Option (Invocation C R)). f j) m.same in
      record {
        world = m.world;
        reach = reach_more (free_rules status) w a.world m.world (reach_step (free_rules status) w (Asks (numbers i vs) c size) a.world step) m.reach;
        here = m.here;
        others = λ d other. m.others d other ∙ (a.others d other ∙ other0 d other);
        stand = stand_stays a.world.invocations m.world.invocations i next_ (λ j p q. at2 j) stand1;
        rest = λ j h. at2 j ∙ (at1 j ∙ puts_rest w.invocations next_ j (invocations_long {C = C} {R = R} twoway (connected ++ Some c ∷ []) None 0 xs) h);
      }

  -- ---- all attempts

  link_stays : (f g : ℕ → Connection R) (c : ℕ) (t : Option (Link R)) → ((d : ℕ) → c ≤ d → d < after c t → g d ≡ f d)
      → LinkAt f (seats i twoway size xs) twoway size c t → LinkAt g (seats i twoway size xs) twoway size c t
  link_stays f g c None same h = tt
  link_stays f g c (Some l) same h = same c (omega arith) (omega arith) ∙ h

  pub links_stay : (f g : ℕ → Connection R) (c : ℕ) (ls : List (Option (Link R))) → ((d : ℕ) → c ≤ d → d < after_all c ls → g d ≡ f d)
      → LinksAt f (seats i twoway size xs) twoway size c ls → LinksAt g (seats i twoway size xs) twoway size c ls
  links_stay f g c [] same h = tt
  links_stay f g c (t ∷ ls) same h =
      let a = after_rises c t in
      let b = all_rises (after c t) ls in (
        link_stays f g c t (λ d low high. same d low (omega arith)) h.0,
        links_stay f g (after c t) ls (λ d low high. same d (omega arith) high) h.1,
      )

  pub record Tried (w : World C R (Unit {0})) (c : ℕ) (connected : List (Option ℕ)) (ls : List (Option (Link R))) : Type 0 where
    pub world : World C R (Unit {0})
    pub reach : Reach (free_rules status) w world
    pub unused : (d : ℕ) → after_all c ls ≤ d → world.connections d ≡ fresh
    pub others : (d : ℕ) → d < c → world.connections d ≡ w.connections d
    pub stand : Stand world.invocations i (calls (connected ++ connections c ls))
    pub rest : (j : ℕ) → (j < i) ⊎ (i + length xs ≤ j) → world.invocations j ≡ w.invocations j
    pub links : LinksAt world.connections (seats i twoway size xs) twoway size c ls

  pub tries : (w : World C R (Unit {0})) (c : ℕ) (connected : List (Option ℕ)) (ls : List (Option (Link R)))
      → ((d : ℕ) → c ≤ d → w.connections d ≡ fresh) → Stand w.invocations i (calls connected)
      → (0 < length ls → Past status w.connections c connected 0 xs) → AreLinks status twoway size xs ls → Tried w c connected ls
  unfolding free_rules
  tries w c connected [] unused stand past good = record {
    world = w;
    reach = ([], refl);
    unused = unused;
    others = λ d l. refl;
    stand = subst (λ (ps : List (Option ℕ)). Stand w.invocations i (calls ps)) (sym (append-nil connected)) stand;
    rest = λ j h. refl;
    links = tt;
  }
  tries w c connected (None ∷ ls) unused stand past good =
      let vs = calls connected in
      let next_ = calls (connected ++ None ∷ []) in
      let w1 : World C R (Unit {0}) = record w { invocations = puts w.invocations i (map missed vs) } in
      let before = past (omega arith) in
      let step : Step (free_rules status) w (Misses (numbers i vs)) w1 =
      (message w connected twoway refl stand, misses status w c i vs stand (all_able status w c twoway connected 0 xs before)) in
      let calls1 : w1.invocations ≡ puts w.invocations i next_ = ap (λ (us : List (Invocation C R)). puts w.invocations i us) (missed_all twoway connected 0 xs) in
      let at1 : (j : ℕ) → w1.invocations j ≡ puts w.invocations i next_ j = λ j. ap (λ (f : ℕ → Option (Invocation C R)). f j) calls1 in
      let stand1 : Stand w1.invocations i next_ =
      stand_stays (puts w.invocations i next_) w1.invocations i next_ (λ j p q. at1 j) (puts_stand w.invocations i next_) in
      let m = tries w1 c (connected ++ None ∷ []) ls unused stand1 (λ l n d h. elim (get_cases connected None n (Some d) h) [
        | inl old ↦ before n d old
        | inr new ↦ absurd (none_some new.1)
      ]) good in
      record {
        world = m.world;
        reach = reach_more (free_rules status) w w1 m.world (reach_step (free_rules status) w (Misses (numbers i vs)) w1 step) m.reach;
        unused = m.unused;
        others = m.others;
        stand = subst (λ (ps : List (Option ℕ)). Stand m.world.invocations i (calls ps)) (append_assoc connected (None ∷ []) (connections c ls)) m.stand;
        rest = λ j h. m.rest j h ∙ (at1 j ∙ puts_rest w.invocations next_ j (invocations_long {C = C} {R = R} twoway (connected ++ None ∷ []) None 0 xs) h);
        links = (tt, m.links);
      }
  tries w c connected (Some l ∷ ls) unused stand past good =
      let before = past (omega arith) in
      let a = carry w c connected l (unused c (omega arith)) stand before good.0 in
      let w1 = a.world in
      let past1 : 0 < length ls → Past status w1.connections (suc c) (connected ++ Some c ∷ []) 0 xs = λ q n d h. elim (get_cases connected (Some c) n (Some d) h) [
        | inl old ↦
            let z = before n d old in
            let low = z.0 in
            let same : w1.connections d ≡ w.connections d = a.others d (λ e. omega arith) in
            (omega arith, ap (λ (y : Connection R). y.client_left) same ∙ z.1, subst (λ (y : Connection R). AreOver status y 0 xs) (sym same) z.2)
        | inr new ↦
            let same : c ≡ d = first_is c d new.1 in
            subst (λ (x : ℕ). (x < suc c) × ((w1.connections x).client_left ≡ true) × AreOver status (w1.connections x) 0 xs) same (
              omega arith,
              ap (λ (y : Connection R). y.client_left) a.here,
              subst (λ (y : Connection R). AreOver status y 0 xs) (sym a.here) (over status i size xs twoway l alone (good.1 q)),
            )
      ] in
      let m = tries w1 (suc c) (connected ++ Some c ∷ []) ls (λ d low. a.others d (λ e. omega arith) ∙ unused d (omega arith)) a.stand past1 good.2 in
      record {
        world = m.world;
        reach = reach_more (free_rules status) w w1 m.world a.reach m.reach;
        unused = m.unused;
        others = λ d low. m.others d (omega arith) ∙ a.others d (λ e. omega arith);
        stand = subst (λ (ps : List (Option ℕ)). Stand m.world.invocations i (calls ps)) (append_assoc connected (Some c ∷ []) (connections (suc c) ls)) m.stand;
        rest = λ j h. m.rest j h ∙ a.rest j h;
        links = (m.others c (omega arith) ∙ a.here, m.links);
      }
