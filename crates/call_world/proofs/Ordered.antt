-- The server answers in order, without a gap.
use Rattle.std.proofs.Common.{◌≡◌, ℕ, zero, suc, ◌+◌, ◌<◌, ◌≤◌, ◌⊎◌, inl, inr, List, [], ◌∷◌, ◌++◌, length, None, Some, refl, ap, sym, ◌∙◌, subst, arith, Bool, true, false, length-append}
use Rattle.std.specs.Prelude.{slice_get}
use Rattle.call_world.specs.Service.{Rules}
use Rattle.call_world.specs.World.{World, Connection, Seat, Turn, Dispatched, Refused, Sent, Validate, Answer, Close, put_at, fresh, opening}
use Rattle.call_world.specs.Connection.{ConnectionEvent, ConnectionStep, Validates, Hands, Arrives, Answers, Closes, Reads, ClientLeaves, ServerLeaves, IsAnswered, IsReady, says, turned, refused, begun, seated}
use Rattle.call_world.specs.Step.{Event, Start, Misses, Asks, Dispatches, Refuses, On, Finishes, Step, Run, Miss, Ask, Each}
use Rattle.call_world.proofs.Lists.{get_old, get_last, get_cases, get_within, put_cases}
use Rattle.call_world.specs.Orders.{IsInOrder}
use Rattle.call_world.specs.CaptureLaws.{AnswersInOrder}
use Rattle.call_world.proofs.Showing.{get_some}

-- what every event keeps
record IsOrdered {R : Type 0} (k : Connection R) : Type 0 where
  inorder : IsInOrder k
  placed : length k.turns ≤ length k.asked
  within : (i n : ℕ) (r : R) → slice_get k.answered i ≡ Some (Answer n r) → n < length k.turns
  -- of the calls that had a turn and ask for a reply, only the last may lack it, and only where it was dispatched
  earlier : (n : ℕ) (s : Seat) → n + 1 < length k.turns → slice_get k.asked n ≡ Some s → s.twoway ≡ true → IsAnswered k n
  refusals : (n : ℕ) (r : R) (s : Seat) → slice_get k.turns n ≡ Some (Refused r) → slice_get k.asked n ≡ Some s → s.twoway ≡ true → IsAnswered k n

fresh_ordered : {R : Type 0} → IsOrdered (fresh {R = R})
fresh_ordered {R} = record {
  inorder = record {
    rising = λ i j m n r q a b l. absurd (let z : None ≡ Some (Answer m r) = a in cc);
    full = λ i n r m s a l b two. absurd (let z : None ≡ Some (Answer n r) = a in cc);
    asks = λ i n r a. absurd (let z : None ≡ Some (Answer n r) = a in cc);
  };
  placed = omega arith;
  within = λ i n r a. absurd (let z : None ≡ Some (Answer n r) = a in cc);
  earlier = λ n s l a two. absurd (omega arith);
  refusals = λ n r s t a two. absurd (let z : None ≡ Some (Refused r) = t in cc);
}

-- the same seats, turns and messages
ordered_same : {R : Type 0} (k k' : Connection R) → k'.asked ≡ k.asked → k'.turns ≡ k.turns → k'.answered ≡ k.answered → IsOrdered k → IsOrdered k'
ordered_same {R} k k' asked turns answered o =
    let said : (i : ℕ) (m : Sent R) → slice_get k'.answered i ≡ Some m → slice_get k.answered i ≡ Some m = λ i m h. ap (λ (ms : List (Sent R)). slice_get ms i) (sym answered) ∙ h in
    let seat : (n : ℕ) (s : Seat) → slice_get k'.asked n ≡ Some s → slice_get k.asked n ≡ Some s = λ n s h. ap (λ (ss : List Seat). slice_get ss n) (sym asked) ∙ h in
    let back : (n : ℕ) → IsAnswered k n → IsAnswered k' n = λ n a. (a.0, a.1, ap (λ (ms : List (Sent R)). slice_get ms a.0) answered ∙ a.2) in
    let number = ap (λ (ts : List (Turn R)). length ts) turns in
    let seats = ap (λ (ss : List Seat). length ss) asked in
    record {
      inorder = record {
        rising = λ i j m n r q a b l. o.inorder.rising i j m n r q (said i (Answer m r) a) (said j (Answer n q) b) l;
        full = λ i n r m s a l b two.
            let f = o.inorder.full i n r m s (said i (Answer n r) a) l (seat m s b) two in
            (f.0, f.1, f.2, ap (λ (ms : List (Sent R)). slice_get ms f.0) answered ∙ f.3);
        asks = λ i n r a.
            let f = o.inorder.asks i n r (said i (Answer n r) a) in
            (f.0, ap (λ (ss : List Seat). slice_get ss n) asked ∙ f.1, f.2);
      };
      placed = let p = o.placed in omega arith;
      within = λ i n r a. let l = o.within i n r (said i (Answer n r) a) in omega arith;
      earlier = λ n s l a two. back n (o.earlier n s (omega arith) (seat n s a) two);
      refusals = λ n r s t a two. back n (o.refusals n r s (ap (λ (ts : List (Turn R)). slice_get ts n) (sym turns) ∙ t) (seat n s a) two);
    }

-- one seat more
ordered_seated : {R : Type 0} (k : Connection R) (i : ℕ) (twoway : Bool) → IsOrdered k → IsOrdered (seated k i twoway)
ordered_seated {R} k i twoway o =
    let x : Seat = record { invocation = i; twoway = twoway; ends = k.asked_bytes } in
    let old : (n : ℕ) (s : Seat) → n < length k.asked → slice_get (k.asked ++ x ∷ []) n ≡ Some s → slice_get k.asked n ≡ Some s =
    λ n s l h. elim (get_cases k.asked x n s h) [ inl a ↦ a | inr b ↦ absurd (let e = b.0 in omega arith) ] in
    let p = o.placed in
    let len = length-append k.asked (x ∷ []) in
    record {
      inorder = record {
        rising = o.inorder.rising;
        full = λ j n r m s a l b two. let w = o.within j n r a in o.inorder.full j n r m s a l (old m s (omega arith) b) two;
        asks = λ j n r a. let f = o.inorder.asks j n r a in (f.0, get_old k.asked x n f.0 f.1, f.2);
      };
      placed = omega arith;
      within = o.within;
      earlier = λ n s l a two. o.earlier n s l (old n s (omega arith) a) two;
      refusals = λ n r s t a two. let w = get_within k.turns n (Refused r) t in o.refusals n r s t (old n s (omega arith) a) two;
    }

-- a message that is no answer
ordered_says : {R : Type 0} (k : Connection R) (x : Sent R) → ((n : ℕ) (r : R) → ¬ (x ≡ Answer n r)) → IsOrdered k → IsOrdered (says k x)
ordered_says {R} k x none o =
    let old : (i n : ℕ) (r : R) → slice_get (k.answered ++ x ∷ []) i ≡ Some (Answer n r) → slice_get k.answered i ≡ Some (Answer n r) =
    λ i n r h. elim (get_cases k.answered x i (Answer n r) h) [ inl a ↦ a | inr b ↦ absurd (none n r b.1) ] in
    let back : (n : ℕ) → IsAnswered k n → IsAnswered (says k x) n = λ n a. (a.0, a.1, get_old k.answered x a.0 (Answer n a.1) a.2) in
    record {
      inorder = record {
        rising = λ i j m n r q a b l. o.inorder.rising i j m n r q (old i m r a) (old j n q b) l;
        full = λ i n r m s a l b two. let f = o.inorder.full i n r m s (old i n r a) l b two in (f.0, f.1, f.2, get_old k.answered x f.0 (Answer m f.1) f.3);
        asks = λ i n r a. o.inorder.asks i n r (old i n r a);
      };
      placed = o.placed;
      within = λ i n r a. o.within i n r (old i n r a);
      earlier = λ n s l a two. back n (o.earlier n s l a two);
      refusals = λ n r s t a two. back n (o.refusals n r s t a two);
    }

-- the answer of the seat that had its turn last, which had none yet
ordered_answers : {R : Type 0} (k : Connection R) (n : ℕ) (r : R) (s : Seat) → n < length k.turns → slice_get k.asked n ≡ Some s → s.twoway ≡ true → ¬ IsAnswered k n
    → IsOrdered k → IsOrdered (says k (Answer n r))
ordered_answers {R} k n r s turn at two first o =
    let x : Sent R = Answer n r in
    -- it is the last turn
    let last : length k.turns ≤ n + 1 = below (length k.turns) (n + 1) (λ l. first (o.earlier n s l at two)) in
    let back : (m : ℕ) → IsAnswered k m → IsAnswered (says k x) m = λ m a. (a.0, a.1, get_old k.answered x a.0 (Answer m a.1) a.2) in
    record {
      inorder = record {
        rising = λ i j m p q u a b l. elim (get_cases k.answered x j (Answer p u) b) [
          | inl oldb ↦ elim (get_cases k.answered x i (Answer m q) a) [
            | inl olda ↦ o.inorder.rising i j m p q u olda oldb l
            | inr newa ↦ absurd (let e = newa.0 in let w = get_within k.answered j (Answer p u) oldb in omega arith)
          ]
          | inr newb ↦ elim (get_cases k.answered x i (Answer m q) a) [
            | inl olda ↦
                let same : n ≡ p = let z = newb.1 in cc in
                let w = o.within i m q olda in
                let other : ¬ (m ≡ n) = λ e. first (i, q, olda ∙ ap (λ (c : ℕ). Some (Answer c q)) e) in
                apart m n p w last other same
            | inr newa ↦ absurd (let e = newa.0 in let f = newb.0 in omega arith)
          ]
        ];
        full = λ i p q m u a l b tw. elim (get_cases k.answered x i (Answer p q) a) [
          | inl old ↦ let f = o.inorder.full i p q m u old l b tw in (f.0, f.1, f.2, get_old k.answered x f.0 (Answer m f.1) f.3)
          | inr new ↦
              let same : n ≡ p = let z = new.1 in cc in
              let e = o.earlier m u (omega arith) b tw in
              let w = get_within k.answered e.0 (Answer m e.1) e.2 in
              let f = new.0 in
              (e.0, e.1, omega arith, get_old k.answered x e.0 (Answer m e.1) e.2)
        ];
        asks = λ i p q a. elim (get_cases k.answered x i (Answer p q) a) [
          | inl old ↦ o.inorder.asks i p q old
          | inr new ↦ let same : n ≡ p = let z = new.1 in cc in (s, ap (slice_get k.asked) (sym same) ∙ at, two)
        ];
      };
      placed = o.placed;
      within = λ i p q a. elim (get_cases k.answered x i (Answer p q) a) [
        | inl old ↦ o.within i p q old
        | inr new ↦ let same : n ≡ p = let z = new.1 in cc in omega arith
      ];
      earlier = λ p u l a tw. back p (o.earlier p u l a tw);
      refusals = λ p q u t a tw. back p (o.refusals p q u t a tw);
    }
  where
    below : (a b : ℕ) → ¬ (b < a) → a ≤ b
    below a b h = omega arith

    apart : (m n p : ℕ) {l : ℕ} → m < l → l ≤ n + 1 → ¬ (m ≡ n) → n ≡ p → m < p
    apart m n p a b c d = omega arith

-- where the next seat may have its turn, all before have their answers
all_answered : {R : Type 0} (k : Connection R) (seat : Seat) → IsReady k seat → IsOrdered k → (n : ℕ) (s : Seat) → n < length k.turns → slice_get k.asked n ≡ Some s → s.twoway ≡ true → IsAnswered k n
all_answered {R} k seat ready o n s l at two =
    let t = get_some k.turns n l in
    by t.0 t.1
  where
    by : (t : Turn R) → slice_get k.turns n ≡ Some t → IsAnswered k n
    by (Dispatched r) h = ready.settled n r s h at two
    by (Refused r) h = o.refusals n r s h at two

-- the next seat has this turn
ordered_turned : {R : Type 0} (k : Connection R) (seat : Seat) (t : Turn R) → IsReady k seat → ((r : R) → t ≡ Refused r → seat.twoway ≡ false) → IsOrdered k → IsOrdered (turned k t)
ordered_turned {R} k seat t ready one o =
    let len = length-append k.turns (t ∷ []) in
    record {
      inorder = record { rising = o.inorder.rising; full = o.inorder.full; asks = o.inorder.asks };
      placed = let w = get_within k.asked (length k.turns) seat ready.next in omega arith;
      within = λ i n r a. let w = o.within i n r a in omega arith;
      earlier = λ n s l a two. all_answered k seat ready o n s (omega arith) a two;
      refusals = λ n r s h a two. elim (get_cases k.turns t n (Refused r) h) [
        | inl old ↦ o.refusals n r s old a two
        | inr new ↦ absurd (
            let z : Some seat ≡ Some s = sym ready.next ∙ (ap (slice_get k.asked) (sym new.0) ∙ a) in
            let same : seat ≡ s = cc in
            let y : true ≡ false = sym two ∙ (ap (λ (u : Seat). u.twoway) (sym same) ∙ one r new.1) in cc)
      ];
    }

-- other turns, as many; each that asks for a reply has it
ordered_swap : {R : Type 0} (k : Connection R) (ts : List (Turn R)) → length ts ≡ length k.turns
    → ((n : ℕ) (s : Seat) → n < length k.turns → slice_get k.asked n ≡ Some s → s.twoway ≡ true → IsAnswered k n)
    → IsOrdered k → IsOrdered (record k { turns = ts })
ordered_swap {R} k ts same all o = record {
  inorder = record { rising = o.inorder.rising; full = o.inorder.full; asks = o.inorder.asks };
  placed = let p = o.placed in omega arith;
  within = λ i n r a. let w = o.within i n r a in omega arith;
  earlier = λ n s l a two. o.earlier n s (omega arith) a two;
  refusals = λ n r s h a two. let w = get_within ts n (Refused r) h in all n s (omega arith) a two;
}

ordered_refused : {R : Type 0} (k : Connection R) (seat : Seat) (r : R) (b : Bool) → IsReady k seat → seat.twoway ≡ b → IsOrdered k → IsOrdered (refused k b r)
ordered_refused {R} k seat r false ready one o = ordered_turned k seat (Refused r) ready (λ q e. one) o
ordered_refused {R} k seat r true ready two o =
    let k1 = turned k (Dispatched r) in
    let len = length-append k.turns (Dispatched r ∷ []) in
    let lens = length-append k.turns (Refused r ∷ []) in
    let o1 = ordered_turned k seat (Dispatched r) ready (λ q e. absurd (let z : Dispatched r ≡ Refused q = e in cc)) o in
    let first : ¬ IsAnswered k1 (length k.turns) = λ a. let w = o.within a.0 (length k.turns) a.1 a.2 in omega arith in
    let o2 = ordered_answers k1 (length k.turns) r seat (omega arith) ready.next two first o1 in
    ordered_swap (says k1 (Answer (length k.turns) r)) (k.turns ++ Refused r ∷ []) (omega arith)
    (λ n s l a tw. elim (before_or n (length k.turns) (omega arith)) [
      | inl low ↦
          let e = all_answered k seat ready o n s low a tw in
          (e.0, e.1, get_old k.answered (Answer (length k.turns) r) e.0 (Answer n e.1) e.2)
      | inr same ↦ (length k.answered, r, get_last k.answered (Answer (length k.turns) r) ∙ ap (λ (m : ℕ). Some (Answer m r)) (sym same))
    ]) o2
  where
    before_or : (n l : ℕ) → n < l + 1 → (n < l) ⊎ (n ≡ l)
    before_or zero zero h = inr refl
    before_or zero (suc l) h = inl (omega arith)
    before_or (suc n) zero h = absurd (omega arith)
    before_or (suc n) (suc l) h = elim (before_or n l (omega arith)) [ inl a ↦ inl (omega arith) | inr b ↦ inr (ap suc b) ]

ordered_connection : {R : Type 0} (k : Connection R) (e : ConnectionEvent R) (k' : Connection R) → ConnectionStep k e k' → IsOrdered k → IsOrdered k'
ordered_connection {R} k Validates k' (a, b, e) o = subst IsOrdered (sym e) (ordered_says k Validate (λ n r z. cc) o)
ordered_connection k (Hands n) k' (a, b, c, e) o = subst IsOrdered (sym e) (ordered_same k (record k { handed = k.handed + n }) refl refl refl o)
ordered_connection k (Arrives n) k' (a, b, e) o = subst IsOrdered (sym e) (ordered_same k (record k { arrived = k.arrived + n }) refl refl refl o)
ordered_connection k (Answers seat r) k' (s, a, turn, at, two, first, e) o =
    subst IsOrdered (sym e) (ordered_answers k seat r s (get_within k.turns seat (Dispatched r) turn) at two first o)
ordered_connection {R} k Closes k' (a, b, c, e) o = subst IsOrdered (sym e) (ordered_says k Close (λ n r z. cc) o)
ordered_connection k Reads k' (a, b, e) o = subst IsOrdered (sym e) (ordered_same k (record k { read = k.read + 1 }) refl refl refl o)
ordered_connection k ClientLeaves k' (a, e) o = subst IsOrdered (sym e) (ordered_same k (record k { client_left = true }) refl refl refl o)
ordered_connection k ServerLeaves k' (a, e) o = subst IsOrdered (sym e) (ordered_same k (record k { server_left = true }) refl refl refl o)

abbrev AllOrdered : {C R O : Type 0} → World C R O → Type 0
AllOrdered w = (c : ℕ) → IsOrdered (w.connections c)

all_put : {C R O : Type 0} (w : World C R O) (c : ℕ) (k : Connection R) → AllOrdered w → IsOrdered k → (d : ℕ) → IsOrdered (put_at w.connections c k d)
all_put w c k all o d = put_cases IsOrdered w.connections c k d (λ e. o) (λ e. all d)

asks_ordered : {C R O : Type 0} (status : R → ℕ) (c : ℕ) (is : List ℕ) (w w' : World C R O) → Each (Ask status c) w is w' → AllOrdered w → AllOrdered w'
asks_ordered status c [] w w' e all = subst AllOrdered e all
asks_ordered status c (i ∷ is) w w' (mid, (v, a, b, here, e), rest) all =
    asks_ordered status c is mid w' rest
    (subst AllOrdered (sym e) (all_put w c (seated (w.connections c) i v.twoway) all (ordered_seated (w.connections c) i v.twoway (all c))))

misses_ordered : {C R O : Type 0} (status : R → ℕ) (is : List ℕ) (w w' : World C R O) → Each (Miss status) w is w' → AllOrdered w → AllOrdered w'
misses_ordered status [] w w' e all = subst AllOrdered e all
misses_ordered status (i ∷ is) w w' (mid, (v, a, b, e), rest) all = misses_ordered status is mid w' rest (subst AllOrdered (sym e) all)

step_ordered : {C R O : Type 0} (rules : Rules C R O) (w : World C R O) (e : Event C R O) (w' : World C R O) → Step rules w e w' → AllOrdered w → AllOrdered w'
step_ordered rules w (Start i call idempotent twoway) w' (a, e) all = subst AllOrdered (sym e) all
step_ordered rules w (Misses is) w' (m, e) all = misses_ordered rules.status is w w' e all
step_ordered {C} {R} {O} rules w (Asks is c size) w' (m, here, e) all =
    let k = w.connections c in
    let k1 = begun k size in
    asks_ordered rules.status c is (record w { connections = put_at w.connections c k1 }) w' e
    (all_put w c k1 all (ordered_same k k1 refl refl refl (all c)))
step_ordered {C} {R} {O} rules w (Dispatches c r next) w' (seat, v, ready, at, may, gives, e) all =
    subst AllOrdered (sym e)
    (all_put w c (turned (w.connections c) (Dispatched r)) all
    (ordered_turned (w.connections c) seat (Dispatched r) ready (λ q z. absurd (let y : Dispatched r ≡ Refused q = z in cc)) (all c)))
step_ordered {C} {R} {O} rules w (Refuses c r) w' (seat, v, ready, at, may, gives, e) all =
    subst AllOrdered (sym e)
    (all_put w c (refused (w.connections c) seat.twoway r) all (ordered_refused (w.connections c) seat r seat.twoway ready refl (all c)))
step_ordered rules w (On c event) w' (k, step, e) all =
    subst AllOrdered (sym e) (all_put w c k all (ordered_connection (w.connections c) event k step (all c)))
step_ordered rules w (Finishes i outcome) w' (v, a, b, c, e) all = subst AllOrdered (sym e) all

run_ordered : {C R O : Type 0} (rules : Rules C R O) (w : World C R O) (es : List (Event C R O)) (w' : World C R O) → Run rules w es w' → AllOrdered w → AllOrdered w'
run_ordered rules w [] w' e all = subst AllOrdered e all
run_ordered rules w (e ∷ es) w' (mid, step, rest) all = run_ordered rules mid es w' rest (step_ordered rules w e mid step all)

pub order_lem : {C R O : Type 0} (rules : Rules C R O) → AnswersInOrder rules
order_lem rules o w (es, run) c = (run_ordered rules (opening o) es w run (λ d. fresh_ordered) c).inorder
