-- What the law says of one message, in the words of its ends.
use Rattle.std.proofs.Common.{◌≡◌, ℕ, zero, suc, ◌+◌, ◌<◌, ◌≤◌, Bool, true, false, List, [], ◌∷◌, length, Option, None, Some, refl, ap, sym, ◌∙◌, arith, cond}
use Rattle.std.specs.Prelude.{slice_get, count_by}
use Rattle.std.proofs.lemmas.Bool.Decides.{Decides-eqb}
use Rattle.std.proofs.lemmas.List.Sums.{sum_by-cons}
use Rattle.ice_messages.specs.declared.message.Call.{Call}
use Rattle.ice_messages.specs.declared.message.Answer.{Answer}
use Rattle.ice_client.specs.declared.outcome.Outcome.{Outcome}
use Rattle.ice_client.specs.declared.outcome.Outcome.TheVariants as outcomes
use Rattle.ice_client.specs.Sending.{asks_reply}
use Rattle.ice_messages.specs.Calls.{status_of}
use Rattle.call_world.specs.Service.{free_rules}
use Rattle.call_world.specs.World.{Seat, Dispatched, Place, Dispatch, Invocation}
use Rattle.call_world.specs.World as worlds
use Rattle.call_world.specs.Counts.{is_of, belongs}
use Rattle.call_world.specs.Laws.{AtMostOnce, OwnReplies}
use Rattle.call_world.specs.Reached.{IsLogged, IsSeated}
use Rattle.call_world.proofs.Runs.{seated_lem}
use Rattle.call_world.proofs.Lists.{get_within}
use Rattle.once_law.specs.Placed.{after, connections, place_at, invocation, invocations}
use Rattle.once_law.specs.Ends.{Delivery, talks, IsDelivery}
use Rattle.once_law.specs.Shown.{CallWorld, calls_of, result_of, ShowsDelivery}
use Rattle.once_law.specs.Laws.{HasTurn, TurnsAreSingle, SuccessesHaveTurns}
use Rattle.once_law.proofs.Lists.{none_some, false_true, none_at, first_is, each_from, get_mapped, get_some, seat_at, after_rises}
use Rattle.once_law.proofs.Sessions.{calls_some}
use Rattle.once_law.proofs.Dispatches.{attempt_at, connection_at, turn_in, had_turn}
use Rattle.once_law.proofs.Deliveries.{one_world}

-- ---- counts

-- where at most one passes, two that pass stand in one place
one_place : {A : Type 0} (test : A → Bool) (xs : List A) → count_by test xs ≤ 1 → (m n : ℕ) (x y : A) → slice_get xs m ≡ Some x → slice_get xs n ≡ Some y
    → test x ≡ true → test y ≡ true → m ≡ n
one_place test [] few m n x y a b p q = absurd (none_at m x a)
one_place {A} test (z ∷ xs) few m n x y a b p q =
    let e = sum_by-cons (λ (v : A). cond {A = ℕ} (test v) 1 0) z xs in
    go (λ l i j c d. one_place test xs l i j x y c d p q) m n a b e
  where
    passes : (zs : List A) (k : ℕ) (v : A) → slice_get zs k ≡ Some v → test v ≡ true → 0 < count_by test zs
    passes [] k v h t = absurd (none_at k v h)
    passes (u ∷ zs) zero v h t =
        let f = sum_by-cons (λ (s : A). cond {A = ℕ} (test s) 1 0) u zs in
        let same : u ≡ v = first_is u v h in
        let one : cond {A = ℕ} (test u) 1 0 ≡ 1 = ap (λ (s : A). cond {A = ℕ} (test s) 1 0) same ∙ ap (λ (b : Bool). cond {A = ℕ} b 1 0) t in
        omega arith
    passes (u ∷ zs) (suc k) v h t =
        let f = sum_by-cons (λ (s : A). cond {A = ℕ} (test s) 1 0) u zs in
        let more = passes zs k v h t in
        omega arith

    go : (count_by test xs ≤ 1 → (i j : ℕ) → slice_get xs i ≡ Some x → slice_get xs j ≡ Some y → i ≡ j)
        → (m n : ℕ) → slice_get (z ∷ xs) m ≡ Some x → slice_get (z ∷ xs) n ≡ Some y → count_by test (z ∷ xs) ≡ cond {A = ℕ} (test z) 1 0 + count_by test xs → m ≡ n
    go again zero zero a b e = refl
    go again zero (suc n) a b e =
        let same : z ≡ x = first_is z x a in
        let one : cond {A = ℕ} (test z) 1 0 ≡ 1 = ap (λ (s : A). cond {A = ℕ} (test s) 1 0) same ∙ ap (λ (c : Bool). cond {A = ℕ} c 1 0) p in
        let more = passes xs n y b q in
        absurd (omega arith)
    go again (suc m) zero a b e =
        let same : z ≡ y = first_is z y b in
        let one : cond {A = ℕ} (test z) 1 0 ≡ 1 = ap (λ (s : A). cond {A = ℕ} (test s) 1 0) same ∙ ap (λ (c : Bool). cond {A = ℕ} c 1 0) q in
        let more = passes xs m x a p in
        absurd (omega arith)
    go again (suc m) (suc n) a b e = ap suc (again (omega arith) m n a b)

-- ---- connections of attempts

-- they stand from c on
connection_from : {A : Type 0} (c : ℕ) (ts : List (Option A)) (n d : ℕ) → slice_get (connections c ts) n ≡ Some (Some d) → c ≤ d
connection_from c [] n d h = absurd (none_at n (Some d) h)
connection_from c (None ∷ ts) zero d h = absurd (none_some (first_is None (Some d) h))
connection_from c (Some x ∷ ts) zero d h = let e : c ≡ d = first_is c d (first_is (Some c) (Some d) h) in omega arith
connection_from c (t ∷ ts) (suc n) d h =
    let a = after_rises c t in
    let l = connection_from (after c t) ts n d h in
    omega arith

-- two attempts have two
connections_differ : {A : Type 0} (c : ℕ) (ts : List (Option A)) (m n d : ℕ) → slice_get (connections c ts) m ≡ Some (Some d) → slice_get (connections c ts) n ≡ Some (Some d) → m ≡ n
connections_differ c [] m n d a b = absurd (none_at m (Some d) a)
connections_differ c (t ∷ ts) zero zero d a b = refl
connections_differ c (None ∷ ts) zero (suc n) d a b = absurd (none_some (first_is None (Some d) a))
connections_differ c (Some x ∷ ts) zero (suc n) d a b =
    absurd (let e : c ≡ d = first_is c d (first_is (Some c) (Some d) a) in let l = connection_from (suc c) ts n d b in omega arith)
connections_differ c (None ∷ ts) (suc m) zero d a b = absurd (none_some (first_is None (Some d) b))
connections_differ c (Some x ∷ ts) (suc m) zero d a b =
    absurd (let e : c ≡ d = first_is c d (first_is (Some c) (Some d) b) in let l = connection_from (suc c) ts m d a in omega arith)
connections_differ c (t ∷ ts) (suc m) (suc n) d a b = ap suc (connections_differ (after c t) ts m n d a b)

-- ---- one message alone

got_call : (two : Bool) (ps : List (Option ℕ)) (r : Option (worlds.Outcome Answer)) (seat : ℕ) (xs : List (Call × Bool)) (n : ℕ) (x : Call × Bool) → slice_get xs n ≡ Some x
    → slice_get (invocations two ps r seat xs) n ≡ Some (invocation two ps r (seat + n) x)
got_call two ps r seat [] n x h = absurd (none_at n x h)
got_call two ps r seat (y ∷ xs) zero x h =
    ap (λ (z : Call × Bool). Some (invocation two ps r seat z)) (first_is y x h)
    ∙ ap (λ (k : ℕ). Some (invocation two ps r k x)) (let e : seat ≡ seat + 0 = omega arith in e)
got_call two ps r seat (y ∷ xs) (suc n) x h =
    got_call two ps r (suc seat) xs n x h
    ∙ ap (λ (k : ℕ). Some (invocation two ps r k x)) (let e : suc seat + n ≡ seat + suc n = omega arith in e)

-- its world, with all that is so of it
record Alone (d : Delivery) : Type 0 where
  world : CallWorld
  shown : ShowsDelivery world 0 0 d
  once : AtMostOnce world
  own : OwnReplies status_of world
  logged : IsLogged world
  seated : IsSeated world

alone : (d : Delivery) → IsDelivery d → Alone d
alone d h =
    let o = one_world (d ∷ []) (h, tt) in
    record {
      world = o.0;
      shown = o.1.shows.0;
      once = o.1.at_most_once;
      own = o.1.own_replies;
      logged = o.1.logged;
      seated = seated_lem (free_rules {C = Call} status_of) tt o.0 o.1.reached;
    }

module _ (d : Delivery) (h : IsDelivery d) (k : Alone d) where
  abbrev w : CallWorld
  w = k.world

  abbrev two : Bool
  two = asks_reply d.message

  abbrev calls : List (Call × Bool)
  calls = calls_of d.message

  -- the invocation of the call in a seat
  abbrev call_at : ℕ → Call × Bool → Invocation Call Answer
  call_at seat x = invocation two (connections 0 (talks d)) (Some (result_of d.outcome)) seat x

  started : (seat : ℕ) (x : Call × Bool) → slice_get calls seat ≡ Some x → w.invocations (0 + seat) ≡ Some (call_at (0 + seat) x)
  started seat x at =
      each_from (λ (j : ℕ) (v : Invocation Call Answer). w.invocations j ≡ Some v) 0 (invocations two (connections 0 (talks d)) (Some (result_of d.outcome)) 0 calls)
      k.shown.calls seat (call_at (0 + seat) x) (got_call two (connections 0 (talks d)) (Some (result_of d.outcome)) 0 calls seat x at)

  -- the dispatch that a turn is
  record Found (n seat : ℕ) (answer : Answer) : Type 0 where
    connection : ℕ
    numbered : slice_get (connections 0 (talks d)) n ≡ Some (Some connection)
    index : ℕ
    logged : slice_get w.dispatches index ≡ Some (record { connection = connection; seat = seat; reply = answer })
    belongs_to : belongs w (0 + seat) (record { connection = connection; seat = seat; reply = answer }) ≡ true

  found : (n seat : ℕ) (answer : Answer) → seat < length calls → HasTurn d n seat answer → Found n seat answer
  found n seat answer within t =
      let x = attempt_at w 0 d.message k.shown.bytes 0 d.attempts n t.attempt t.session t.at t.served h.ends k.shown.attempts in
      let had : slice_get (w.connections x.connection).turns seat ≡ Some (Dispatched answer) =
      had_turn w d.message 0 k.shown.bytes x.connection seat x.talk t.session t.gave.0 answer x.shown t.gave.1 t.gave.2 in
      let log = k.logged.known x.connection seat answer had in
      let s = seat_at 0 two (length k.shown.bytes) calls seat within in
      record {
        connection = x.connection;
        numbered = x.numbered;
        index = log.0;
        logged = log.1;
        belongs_to = ap (is_of (0 + seat)) (ap (λ (ss : List Seat). slice_get ss seat) x.shown.asked ∙ s.at)
            ∙ (Decides-eqb s.seat.invocation (0 + seat)).1 s.own;
      }

  single : (seat : ℕ) (call : Call) → slice_get calls seat ≡ Some (call, false) → (m n : ℕ) (a b : Answer) → HasTurn d m seat a → HasTurn d n seat b → m ≡ n
  single seat call at m n a b t u =
      let within = get_within calls seat (call, false) at in
      let f = found m seat a within t in
      let g = found n seat b within u in
      let x : Dispatch Answer = record { connection = f.connection; seat = seat; reply = a } in
      let y : Dispatch Answer = record { connection = g.connection; seat = seat; reply = b } in
      let few = k.once (0 + seat) (call_at (0 + seat) (call, false)) (started seat (call, false) at) refl in
      let same = one_place (belongs w (0 + seat)) w.dispatches few f.index g.index x y f.logged g.logged f.belongs_to g.belongs_to in
      let equal : x ≡ y = first_is x y (sym f.logged ∙ (ap (slice_get w.dispatches) same ∙ g.logged)) in
      let one : g.connection ≡ f.connection = ap (λ (z : Dispatch Answer). z.connection) (sym equal) in
      connections_differ 0 (talks d) m n f.connection f.numbered (g.numbered ∙ ap (λ (c : ℕ). Some (Some c)) one)

  -- ---- a success

  seat_of : (i : ℕ) (s : Option Seat) → is_of i s ≡ true → (seat : Seat) × (s ≡ Some seat) × (seat.invocation ≡ i)
  seat_of i None e = absurd (false_true e)
  seat_of i (Some s) e = (s, refl, (Decides-eqb s.invocation i).0 e)

  place_is : (t : Option ℕ) (p : Place) → place_at 0 t ≡ Some p → (t ≡ Some p.connection) × (p.seat ≡ 0)
  place_is None p e = absurd (none_some e)
  place_is (Some c) p e =
      let z : record { connection = c; seat = 0 } ≡ p = first_is (record { connection = c; seat = 0 }) p e in
      (ap (λ (q : Place). Some q.connection) z, sym (ap (λ (q : Place). q.seat) z))

  own_turn : (answer : Answer) → d.outcome ≡ Some (outcomes.Replied answer) → status_of answer ≡ 0 → (n : ℕ) × HasTurn d n 0 answer
  own_turn answer done success =
      let first = get_some calls 0 (calls_some d.message h.sent) in
      let v = call_at 0 first.0 in
      let begun : w.invocations 0 ≡ Some v = started 0 first.0 first.1 in
      let r = k.own 0 v answer begun (ap (λ (o : Option Outcome). Some (result_of o)) done) success in
      let x = r.1 in
      let turn = k.logged.recorded r.0 x r.2 in
      let s = seat_of 0 (slice_get (w.connections x.connection).asked x.seat) r.3 in
      let l = k.seated.listed (record { connection = x.connection; seat = x.seat }) s.0 s.1 in
      let same : l.invocation ≡ v = first_is l.invocation v (sym l.started ∙ (ap w.invocations s.2 ∙ begun)) in
      let at = sym (ap (λ (u : Invocation Call Answer). slice_get u.attempts l.number) same) ∙ l.attempt in
      let g = get_mapped (place_at 0) (connections 0 (talks d)) l.number (Some (record { connection = x.connection; seat = x.seat })) at in
      let p = place_is g.0 (record { connection = x.connection; seat = x.seat }) g.2 in
      let c = connection_at w 0 d.message k.shown.bytes 0 d.attempts l.number x.connection (g.1 ∙ ap (λ (t : Option ℕ). Some t) p.0) k.shown.attempts in
      let had : slice_get (w.connections x.connection).turns 0 ≡ Some (Dispatched answer) =
      ap (slice_get (w.connections x.connection).turns) (sym p.1) ∙ (turn ∙ ap (λ (a : Answer). Some (Dispatched a)) r.4) in
      (l.number, turn_in d l.number 0 c.0 (w.connections x.connection) 0 k.shown.bytes c.2.0 answer c.1 c.2.1 had)

pub single_turns : TurnsAreSingle
single_turns d h seat call at m n a b t u = single d h (alone d h) seat call at m n a b t u

pub own_turns : SuccessesHaveTurns
own_turns d h answer done success = own_turn d h (alone d h) answer done success
