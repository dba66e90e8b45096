-- A run in which the client asks this on connection 0.
use Rattle.std.proofs.Common.{◌≡◌, ℕ, zero, suc, ◌+◌, ◌<◌, ◌≤◌, ◌⊎◌, inl, inr, List, [], ◌∷◌, ◌++◌, length, None, Some, refl, ap, sym, ◌∙◌, subst, arith, Bool, false, append_assoc, append-nil, length-append}
use Rattle.std.specs.Prelude.{slice_get}
use Rattle.call_world.specs.Service.{Rules, free_rules}
use Rattle.call_world.specs.World.{World, Connection, Seat, Invocation, put_at, fresh, opening}
use Rattle.call_world.specs.Connection.{begun, seated}
use Rattle.call_world.specs.Step.{Event, Start, Asks, Step, Run, IsReached, IsMessage, MayTry, Ask, Each, tried}
use Rattle.call_world.proofs.Lists.{put_cases, get_within, get_cases}
use Rattle.call_world.specs.Asked.{Asked, Single, Several, Wanted, wanted, each_wanted, total, asks_reply, calls_in, size_of}
use Rattle.call_world.specs.Fits.{HasAsked}

pub put_here : {A : Type 0} (f : ℕ → A) (k : ℕ) (a : A) → put_at f k a k ≡ a
put_here {A} f k a = put_cases (λ (x : A). x ≡ a) f k a k (λ e. refl) (λ e. absurd (e refl))

pub put_there : {A : Type 0} (f : ℕ → A) (k : ℕ) (a : A) (j : ℕ) → ¬ (j ≡ k) → put_at f k a j ≡ f j
put_there {A} f k a j other = put_cases (λ (x : A). x ≡ f j) f k a j (λ e. absurd (other e)) (λ e. refl)

run_more : {C R O : Type 0} (rules : Rules C R O) (a : World C R O) (es : List (Event C R O)) (b : World C R O) (e : Event C R O) (c : World C R O)
    → Run rules a es b → Step rules b e c → Run rules a (es ++ e ∷ []) c
run_more rules a [] b e c same step = (c, subst (λ x. Step rules x e c) (sym same) step, refl)
run_more rules a (f ∷ es) b e c (mid, first, rest) step = (mid, first, run_more rules mid es b e c rest step)

-- one event more
pub reach : {C R O : Type 0} (rules : Rules C R O) (o : O) (b : World C R O) (e : Event C R O) (c : World C R O) → IsReached rules o b → Step rules b e c → IsReached rules o c
reach rules o b e c (es, run) step = (es ++ e ∷ [], run_more rules (opening o) es b e c run step)

-- ---- starting

-- the invocation of a call, before it is tried
pub untried : {C R : Type 0} → (C → Bool) → Wanted C → Invocation C R
untried repeatable x = record { call = x.call; idempotent = repeatable x.call; twoway = x.twoway; attempts = []; result = None }

record Started {C R : Type 0} (status : R → ℕ) (repeatable : C → Bool) (w : World C R (Unit {0})) (i : ℕ) (xs : List (Wanted C)) : Type 0 where
  world : World C R (Unit {0})
  reached : IsReached (free_rules status) tt world
  same : world.connections ≡ w.connections
  own : (n : ℕ) (x : Wanted C) → slice_get xs n ≡ Some x → world.invocations (i + n) ≡ Some (untried repeatable x)
  below : (j : ℕ) → j < i → world.invocations j ≡ w.invocations j

starts : {C R : Type 0} (status : R → ℕ) (repeatable : C → Bool) (w : World C R (Unit {0})) (i : ℕ) (xs : List (Wanted C))
    → IsReached (free_rules status) tt w → ((j : ℕ) → i ≤ j → w.invocations j ≡ None) → Started status repeatable w i xs
unfolding untried
starts {C} {R} status repeatable w i [] reached free = record {
  world = w;
  reached = reached;
  same = refl;
  own = λ n x h. absurd (let z : None ≡ Some x = h in cc);
  below = λ j l. refl;
}
starts {C} {R} status repeatable w i (x ∷ xs) reached free =
    let w1 : World C R (Unit {0}) = record w { invocations = put_at w.invocations i (Some (untried repeatable x)) } in
    let s = starts status repeatable w1 (suc i) xs
    (reach (free_rules status) tt w (Start i x.call (repeatable x.call) x.twoway) w1 reached (free i (omega arith), refl))
    (λ j l. put_there w.invocations i (Some (untried repeatable x)) j (λ e. omega arith) ∙ free j (omega arith)) in
    let own_at : (n : ℕ) (y : Wanted C) → slice_get (x ∷ xs) n ≡ Some y → s.world.invocations (i + n) ≡ Some (untried repeatable y) =
    first_or_later (λ n y. s.world.invocations (i + n) ≡ Some (untried repeatable y)) x xs
    (let e : i + 0 ≡ i = omega arith in ap s.world.invocations e ∙ (s.below i (omega arith) ∙ put_here w.invocations i (Some (untried repeatable x))))
    (λ n y h. let e : i + suc n ≡ suc i + n = omega arith in ap s.world.invocations e ∙ s.own n y h) in
    record {
      world = s.world;
      reached = s.reached;
      same = s.same;
      own = own_at;
      below = λ j l. s.below j (omega arith) ∙ put_there w.invocations i (Some (untried repeatable x)) j (λ e. omega arith);
    }
  where
    first_or_later : {A : Type 0} (P : ℕ → A → Type 0) (x : A) (xs : List A) → P 0 x → ((n : ℕ) (y : A) → slice_get xs n ≡ Some y → P (suc n) y)
        → (n : ℕ) (y : A) → slice_get (x ∷ xs) n ≡ Some y → P n y
    first_or_later P x xs first later zero y h = subst (P 0) (let e : x ≡ y = cc in e) first
    first_or_later P x xs first later (suc n) y h = later n y h

-- ---- asking

-- their seats, the first of them of this invocation
unfoldable pub seats_of : {C : Type 0} → ℕ → List (Wanted C) → List Seat
seats_of i [] = []
seats_of i (x ∷ xs) = record { invocation = i; twoway = x.twoway; ends = x.ends } ∷ seats_of (suc i) xs

seats_more : {C : Type 0} (i : ℕ) (xs : List (Wanted C)) (y : Wanted C)
    → seats_of i (xs ++ y ∷ []) ≡ seats_of i xs ++ record { invocation = i + length xs; twoway = y.twoway; ends = y.ends } ∷ []
unfolding seats_of
seats_more i [] y = let e : i ≡ i + 0 = omega arith in ap (λ (n : ℕ). record { invocation = n; twoway = y.twoway; ends = y.ends } ∷ []) e
seats_more i (x ∷ xs) y =
    let e : suc i + length xs ≡ i + suc (length xs) = omega arith in
    let r = seats_more (suc i) xs y in
    ap (λ (ss : List Seat). record { invocation = i; twoway = x.twoway; ends = x.ends } ∷ ss)
    (r ∙ ap (λ (n : ℕ). seats_of (suc i) xs ++ record { invocation = n; twoway = y.twoway; ends = y.ends } ∷ []) e)

seats_length : {C : Type 0} (i : ℕ) (xs : List (Wanted C)) → length (seats_of i xs) ≡ length xs
unfolding seats_of
seats_length i [] = refl
seats_length i (x ∷ xs) = ap suc (seats_length (suc i) xs)

-- a connection on which this was asked, and nothing else was done
unfoldable pub asking : {C R : Type 0} → List (Wanted C) → ℕ → Connection R
asking xs bytes = record {
  asked = seats_of 0 xs;
  asked_bytes = bytes;
  handed = 0;
  arrived = 0;
  turns = [];
  answered = [];
  read = 0;
  client_left = false;
  server_left = false;
}

record IsAsking {C R : Type 0} (repeatable : C → Bool) (done todo : List (Wanted C)) (bytes : ℕ) (w : World C R (Unit {0})) : Type 0 where
  here : w.connections 0 ≡ asking done bytes
  others : (c : ℕ) → ¬ (c ≡ 0) → w.connections c ≡ fresh
  tries :
      (n : ℕ) (x : Wanted C) → slice_get done n ≡ Some x
      → (v : Invocation C R) × (w.invocations n ≡ Some v) × (v.call ≡ x.call) × (v.idempotent ≡ repeatable x.call) × (v.twoway ≡ x.twoway)
  waits : (n : ℕ) (x : Wanted C) → slice_get todo n ≡ Some x → w.invocations (length done + n) ≡ Some (untried repeatable x)

record Asked1 {C R : Type 0} (status : R → ℕ) (repeatable : C → Bool) (done todo : List (Wanted C)) (bytes : ℕ) (w : World C R (Unit {0})) (is : List ℕ) : Type 0 where
  world : World C R (Unit {0})
  each : Each (Ask status 0) w is world
  asking : IsAsking repeatable done todo bytes world

-- one call
ask_one : {C R : Type 0} (status : R → ℕ) (repeatable : C → Bool) (done rest : List (Wanted C)) (x : Wanted C) (bytes : ℕ) (w : World C R (Unit {0}))
    → x.ends ≡ bytes → IsAsking repeatable done (x ∷ rest) bytes w
    → (w' : World C R (Unit {0})) × Ask status 0 w (length done) w' × IsAsking repeatable (done ++ x ∷ []) rest bytes w'
unfolding untried asking
ask_one {C} {R} status repeatable done rest x bytes w ends a =
    let i = length done in
    let v : Invocation C R = untried repeatable x in
    let k = w.connections 0 in
    let v1 : Invocation C R = tried v (Some (record { connection = 0; seat = length k.asked })) in
    let k1 = seated k i x.twoway in
    let w1 : World C R (Unit {0}) = record w {
      invocations = put_at w.invocations i (Some v1);
      connections = put_at w.connections 0 k1;
    } in
    let zero_is : i + 0 ≡ i = omega arith in
    let started : w.invocations i ≡ Some v = ap w.invocations (sym zero_is) ∙ a.waits 0 x refl in
    let may : MayTry status w v = record { unfinished = refl; free = inl (λ n p h. absurd (let z : None ≡ Some p = h in cc)) } in
    let step : Ask status 0 w i w1 = (v, started, may, ap (λ (y : Connection R). y.client_left) a.here, refl) in
    let same : k1 ≡ asking (done ++ x ∷ []) bytes =
    ap (λ (y : Connection R). seated y i x.twoway) a.here
    ∙ (ap (λ (n : ℕ). record (asking done bytes) { asked = seats_of 0 done ++ record { invocation = i; twoway = x.twoway; ends = n } ∷ [] }) (sym ends)
    ∙ (ap (λ (n : ℕ). record (asking done bytes) { asked = seats_of 0 done ++ record { invocation = n; twoway = x.twoway; ends = x.ends } ∷ [] }) (let e : i ≡ 0 + i = omega arith in e)
    ∙ ap (λ (ss : List Seat). record (asking done bytes) { asked = ss }) (sym (seats_more 0 done x)))) in
    let len = length-append done (x ∷ []) in (
      w1,
      step,
      record {
        here = put_here w.connections 0 k1 ∙ same;
        others = λ c other. put_there w.connections 0 k1 c other ∙ a.others c other;
        tries = λ n y h. elim (get_cases done x n y h) [
          | inl old ↦
              let t = a.tries n y old in
              let l = get_within done n y old in
              (t.0, put_there w.invocations i (Some v1) n (λ e. omega arith) ∙ t.1, t.2, t.3, t.4)
          | inr new ↦
              let P : Wanted C → Type 0 = λ z. (u : Invocation C R) × (w1.invocations n ≡ Some u) × (u.call ≡ z.call) × (u.idempotent ≡ repeatable z.call) × (u.twoway ≡ z.twoway) in
              subst P new.1 (v1, ap w1.invocations new.0 ∙ put_here w.invocations i (Some v1), refl, refl, refl)
        ];
        waits = λ n y h.
            let e : length (done ++ x ∷ []) + n ≡ i + suc n = omega arith in
            ap w1.invocations e ∙ (put_there w.invocations i (Some v1) (i + suc n) (λ z. omega arith) ∙ a.waits (suc n) y h);
      },
    )

-- the numbers from i on
numbers : ℕ → ℕ → List ℕ
numbers i zero = []
numbers i (suc m) = i ∷ numbers (suc i) m

number_at : (i m n j : ℕ) → slice_get (numbers i m) n ≡ Some j → (j ≡ i + n) × (n < m)
unfolding numbers
number_at i zero n j h = absurd (let z : None ≡ Some j = h in cc)
number_at i (suc m) zero j h = (let e : i ≡ j = cc in omega arith, omega arith)
number_at i (suc m) (suc n) j h = let k = number_at (suc i) m n j h in let e = k.0 in let l = k.1 in (omega arith, omega arith)

numbers_length : (i m : ℕ) → length (numbers i m) ≡ m
unfolding numbers
numbers_length i zero = refl
numbers_length i (suc m) = ap suc (numbers_length (suc i) m)

-- the calls of one message, which ends there
ask_each : {C R : Type 0} (status : R → ℕ) (repeatable : C → Bool) (done rest : List (Wanted C)) (two : Bool) (cs : List C) (bytes : ℕ) (w : World C R (Unit {0}))
    → IsAsking repeatable done (each_wanted two bytes cs ++ rest) bytes w
    → (w' : World C R (Unit {0})) × Each (Ask status 0) w (numbers (length done) (length cs)) w' × IsAsking repeatable (done ++ each_wanted two bytes cs) rest bytes w'
unfolding numbers
ask_each {C} {R} status repeatable done rest two [] bytes w a =
    (w, refl, subst (λ (xs : List (Wanted C)). IsAsking repeatable xs rest bytes w) (sym (append-nil done)) a)
ask_each {C} {R} status repeatable done rest two (c ∷ cs) bytes w a =
    let x : Wanted C = record { call = c; twoway = two; ends = bytes } in
    let one = ask_one status repeatable done (each_wanted two bytes cs ++ rest) x bytes w refl a in
    let more = ask_each status repeatable (done ++ x ∷ []) rest two cs bytes one.0 one.2 in
    let len = length-append done (x ∷ []) in
    let e : length (done ++ x ∷ []) ≡ suc (length done) = omega arith in (
      more.0,
      (one.0, one.1, subst (λ (n : ℕ). Each (Ask status 0) one.0 (numbers n (length cs)) more.0) e more.1),
      subst (λ (xs : List (Wanted C)). IsAsking repeatable xs rest bytes more.0) (append_assoc done (x ∷ []) (each_wanted two bytes cs)) more.2,
    )

wanted_one : {C : Type 0} (two : Bool) (ends : ℕ) (cs : List C) (rest : List (Wanted C)) (n : ℕ) → n < length cs
    → (x : Wanted C) × (slice_get (each_wanted two ends cs ++ rest) n ≡ Some x) × (x.twoway ≡ two)
wanted_one two ends [] rest n l = absurd (omega arith)
wanted_one two ends (c ∷ cs) rest zero l = (record { call = c; twoway = two; ends = ends }, refl, refl)
wanted_one two ends (c ∷ cs) rest (suc n) l = wanted_one two ends cs rest n (omega arith)

is_message : {C : Type 0} (a : Asked C) → (0 < length (calls_in a)) × ((length (calls_in a) ≡ 1) ⊎ (asks_reply a ≡ false))
is_message (Single two c size) = (omega arith, inl refl)
is_message (Several c cs size) = (omega arith, inr refl)

-- one message
ask_message : {C R : Type 0} (status : R → ℕ) (repeatable : C → Bool) (done rest : List (Wanted C)) (a : Asked C) (bytes : ℕ) (w : World C R (Unit {0}))
    → IsReached (free_rules status) tt w
    → IsAsking repeatable done (each_wanted (asks_reply a) (bytes + size_of a) (calls_in a) ++ rest) bytes w
    → (w' : World C R (Unit {0})) × IsReached (free_rules status) tt w'
    × IsAsking repeatable (done ++ each_wanted (asks_reply a) (bytes + size_of a) (calls_in a)) rest (bytes + size_of a) w'
unfolding free_rules asking untried
ask_message {C} {R} status repeatable done rest a bytes w reached k =
    let two = asks_reply a in
    let cs = calls_in a in
    let size = size_of a in
    let is = numbers (length done) (length cs) in
    let w1 : World C R (Unit {0}) = record w { connections = put_at w.connections 0 (begun (w.connections 0) size) } in
    let k1 : IsAsking repeatable done (each_wanted two (bytes + size) cs ++ rest) (bytes + size) w1 = record {
      here = put_here w.connections 0 (begun (w.connections 0) size) ∙ ap (λ (y : Connection R). begun y size) k.here;
      others = λ c other. put_there w.connections 0 (begun (w.connections 0) size) c other ∙ k.others c other;
      tries = k.tries;
      waits = k.waits;
    } in
    let e = ask_each status repeatable done rest two cs (bytes + size) w1 k1 in
    let m = is_message a in
    let len = numbers_length (length done) (length cs) in
    let message : IsMessage w is = (
      (let l = m.0 in omega arith),
      λ p q i x y.
          let s = number_at (length done) (length cs) p i x in
          let t = number_at (length done) (length cs) q i y in
          let s0 = s.0 in
          let t0 = t.0 in
          omega arith,
      elim m.1 [
        | inl one ↦ inl (len ∙ one)
        | inr none ↦ inr (λ n i v h at.
            let s = number_at (length done) (length cs) n i h in
            let x = wanted_one two (bytes + size) cs rest n s.1 in
            let q : w.invocations i ≡ Some (untried repeatable x.0) = ap w.invocations s.0 ∙ k.waits n x.0 x.1 in
            let z : Some v ≡ Some (untried repeatable x.0) = sym at ∙ q in
            let same : v ≡ untried repeatable x.0 = cc in
            ap (λ (u : Invocation C R). u.twoway) same ∙ (x.2 ∙ none))
      ],
    ) in (
      e.0,
      reach (free_rules status) tt w (Asks is 0 size) e.0 reached (message, ap (λ (y : Connection R). y.client_left) k.here, e.1),
      e.2,
    )

-- all messages
ask_all : {C R : Type 0} (status : R → ℕ) (repeatable : C → Bool) (done : List (Wanted C)) (client : List (Asked C)) (bytes : ℕ) (w : World C R (Unit {0}))
    → IsReached (free_rules status) tt w → IsAsking repeatable done (wanted bytes client) bytes w
    → (w' : World C R (Unit {0})) × IsReached (free_rules status) tt w' × IsAsking repeatable (done ++ wanted bytes client) [] (total bytes client) w'
ask_all {C} status repeatable done [] bytes w reached k =
    (w, reached, subst (λ (xs : List (Wanted C)). IsAsking repeatable xs [] bytes w) (sym (append-nil done)) k)
ask_all {C} status repeatable done (a ∷ client) bytes w reached k =
    let here = each_wanted (asks_reply a) (bytes + size_of a) (calls_in a) in
    let rest = wanted (bytes + size_of a) client in
    let one = ask_message status repeatable done rest a bytes w reached k in
    let more = ask_all status repeatable (done ++ here) client (bytes + size_of a) one.0 one.1 one.2 in
    (more.0, more.1, subst (λ (xs : List (Wanted C)). IsAsking repeatable xs [] (total (bytes + size_of a) client) more.0) (append_assoc done here rest) more.2)

-- ---- what was asked

pub seat_of : {C : Type 0} (i : ℕ) (xs : List (Wanted C)) (n : ℕ) (s : Seat) → slice_get (seats_of i xs) n ≡ Some s
    → (x : Wanted C) × (slice_get xs n ≡ Some x) × (s.invocation ≡ i + n) × (s.twoway ≡ x.twoway) × (s.ends ≡ x.ends)
unfolding seats_of
seat_of i [] n s h = absurd (let z : None ≡ Some s = h in cc)
seat_of i (x ∷ xs) zero s h =
    let e : record { invocation = i; twoway = x.twoway; ends = x.ends } ≡ s = cc in
    (x, refl, (let z : i ≡ i + 0 = omega arith in ap (λ (t : Seat). t.invocation) (sym e) ∙ z), ap (λ (t : Seat). t.twoway) (sym e), ap (λ (t : Seat). t.ends) (sym e))
seat_of i (x ∷ xs) (suc n) s h =
    let r = seat_of (suc i) xs n s h in
    (r.0, r.1, (let z = r.2 in omega arith), r.3, r.4)

-- a world in which the client asked this, and nothing else was done
pub record AskedWorld {C R : Type 0} (status : R → ℕ) (repeatable : C → Bool) (client : List (Asked C)) : Type 0 where
  pub world : World C R (Unit {0})
  pub reached : IsReached (free_rules status) tt world
  pub here : world.connections 0 ≡ asking (wanted 0 client) (total 0 client)
  pub others : (c : ℕ) → ¬ (c ≡ 0) → world.connections c ≡ fresh
  pub asked : HasAsked repeatable (wanted 0 client) world

has_asked : {C R : Type 0} (repeatable : C → Bool) (xs : List (Wanted C)) (bytes : ℕ) (w : World C R (Unit {0})) → IsAsking repeatable xs [] bytes w → HasAsked repeatable xs w
unfolding asking
has_asked {C} {R} repeatable xs bytes w k =
    let seats : (n : ℕ) (s : Seat) → slice_get (w.connections 0).asked n ≡ Some s → slice_get (seats_of 0 xs) n ≡ Some s =
    λ n s h. ap (λ (y : Connection R). slice_get y.asked n) (sym k.here) ∙ h in
    record {
      number = ap (λ (y : Connection R). length y.asked) k.here ∙ seats_length 0 xs;
      calls = λ n s x h at.
          let o = seat_of 0 xs n s (seats n s h) in
          let z : Some o.0 ≡ Some x = sym o.1 ∙ at in
          let same : o.0 ≡ x = cc in
          let t = k.tries n x at in
          let i : s.invocation ≡ n = let q = o.2 in omega arith in
          record {
            invocation = t.0;
            started = ap w.invocations i ∙ t.1;
            call = t.2;
            repeats = t.3;
            twoway = t.4;
            asks = o.3 ∙ ap (λ (y : Wanted C). y.twoway) same;
            ends = o.4 ∙ ap (λ (y : Wanted C). y.ends) same;
          };
      own = λ m n s t a b e.
          let o = seat_of 0 xs m s (seats m s a) in
          let p = seat_of 0 xs n t (seats n t b) in
          let o2 = o.2 in
          let p2 = p.2 in
          omega arith;
      alone = λ c other. ap (λ (y : Connection R). y.asked) (k.others c other);
    }

pub asked_world : {C R : Type 0} (status : R → ℕ) (repeatable : C → Bool) (client : List (Asked C)) → AskedWorld status repeatable client
unfolding asking seats_of
asked_world {C} {R} status repeatable client =
    let o : World C R (Unit {0}) = opening tt in
    let s = starts status repeatable o 0 (wanted 0 client) ([], refl) (λ j l. refl) in
    let conn : (c : ℕ) → s.world.connections c ≡ fresh = λ c. ap (λ (f : ℕ → Connection R). f c) s.same in
    let k : IsAsking repeatable [] (wanted 0 client) 0 s.world = record {
      here = conn 0;
      others = λ c other. conn c;
      tries = λ n x h. absurd (let z : None ≡ Some x = h in cc);
      waits = λ n x h. s.own n x h;
    } in
    let a = ask_all status repeatable [] client 0 s.world s.reached k in
    record {
      world = a.0;
      reached = a.1;
      here = a.2.here;
      others = a.2.others;
      asked = has_asked repeatable (wanted 0 client) (total 0 client) a.0 a.2;
    }
