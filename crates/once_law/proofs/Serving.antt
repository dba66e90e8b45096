-- A connection that carries one message, from the message's calls to the client's leaving.
use Rattle.std.proofs.Common.{◌≡◌, ℕ, zero, suc, ◌+◌, ◌<◌, ◌≤◌, List, [], ◌∷◌, ◌++◌, length, Option, None, Some, refl, ap, sym, ◌∙◌, subst, arith, Bool, true, false, zero-add, append_assoc, append-nil}
use Rattle.std.specs.Prelude.{slice_get}
use Rattle.call_world.specs.Service.{free_rules}
use Rattle.call_world.specs.World.{World, Connection, Seat, Turn, Dispatched, Refused, Sent, Validate, Answer, Close, Invocation}
use Rattle.call_world.specs.Connection.{Validates, Hands, Arrives, Answers, Closes, Reads, ClientLeaves, IsReady, IsSettled}
use Rattle.once_law.specs.Placed.{closing}
use Rattle.once_law.proofs.Lists.{true_false, none_at, get_some, more_long}
use Rattle.once_law.proofs.Links.{Link, reply_of, said, turns_at, said_at, conn, linked, IsAllowed, IsLink}
use Rattle.once_law.proofs.Moves.{Moved, moved_on, moved_turn, has_turn}

-- the seats are those of one message, whose calls were started
pub record AreAsked {C R O : Type 0} (w : World C R O) (ss : List Seat) (twoway : Bool) (size : ℕ) : Type 0 where
  pub each :
      (n : ℕ) (s : Seat) → slice_get ss n ≡ Some s
      → (s.twoway ≡ twoway) × (s.ends ≡ size) × ((v : Invocation C R) × (w.invocations s.invocation ≡ Some v))

abbrev first_read : ℕ → ℕ
first_read zero = 0
first_read (suc n) = 1

abbrev rest_read : ℕ → ℕ
rest_read zero = 0
rest_read (suc n) = n

all_read : (n : ℕ) → first_read n + rest_read n ≡ n
all_read zero = omega arith
all_read (suc n) = omega arith

first_below : (n m : ℕ) → n ≤ m → first_read n ≤ m
first_below zero m l = omega arith
first_below (suc n) m l = omega arith

none_handed : (h : ℕ) → (0 < h → 0 < 0) → 0 ≡ h
none_handed zero f = refl
none_handed (suc h) f = absurd (let p : 0 < 0 = f (omega arith) in omega arith)

abbrev greeted : {R : Type 0} → List (Sent R)
greeted = Validate ∷ []

no_close_in_greeting : {R : Type 0} (n : ℕ) → ¬ (slice_get (greeted {R = R}) n ≡ Some Close)
no_close_in_greeting zero e = let z : Some Validate ≡ Some Close = e in cc
no_close_in_greeting (suc n) e = let z : None ≡ Some Close = e in cc

no_answer_in_greeting : {R : Type 0} (seat n : ℕ) (r : R) → ¬ (slice_get (Validate ∷ []) n ≡ Some (Answer seat r))
no_answer_in_greeting seat zero r e = let z : Some Validate ≡ Some (Answer seat r) = e in cc
no_answer_in_greeting seat (suc n) r e = let z : None ≡ Some (Answer seat r) = e in cc

no_close_when_answered : {R : Type 0} (q : R) (n : ℕ) → ¬ (slice_get (Validate ∷ Answer 0 q ∷ []) n ≡ Some Close)
no_close_when_answered q zero e = let z : Some Validate ≡ Some Close = e in cc
no_close_when_answered q (suc zero) e = let z : Some (Answer 0 q) ≡ Some Close = e in cc
no_close_when_answered q (suc (suc n)) e = let z : None ≡ Some Close = e in cc

module _ {C R : Type 0} (status : R → ℕ) (w : World C R (Unit {0})) (c size : ℕ) (ss : List Seat) where
  -- a world in which the connection stands so
  abbrev At : ℕ → ℕ → List (Turn R) → List (Sent R) → ℕ → Bool → Type 0
  At handed arrived turns answered read left = Moved (free_rules status) w c (conn ss size handed arrived turns answered read left)

  greet : At 0 0 [] [] 0 false → At 0 0 [] (Validate ∷ []) 0 false
  greet m = moved_on (free_rules status) w c (conn ss size 0 0 [] [] 0 false) Validates (conn ss size 0 0 [] (Validate ∷ []) 0 false) (refl, refl, refl) m

  -- the bytes of the message, after the validate was read
  hand : (h a n : ℕ) → (0 < h → 0 < n) → a ≤ h → h ≤ size → At 0 0 [] (Validate ∷ []) 0 false → At h a [] (Validate ∷ []) (first_read n) false
  hand h a zero greeted arrived handed m =
      let x : 0 ≡ h = none_handed h greeted in
      let y : 0 ≡ a = omega arith in
      subst (λ (p : ℕ). At h p [] (Validate ∷ []) 0 false) y
      (subst (λ (p : ℕ). At p 0 [] (Validate ∷ []) 0 false) x m)
  hand h a (suc n) greeted arrived handed m =
      let ms : List (Sent R) = Validate ∷ [] in
      let k0 : Connection R = conn ss size 0 0 [] ms 0 false in
      let k1 : Connection R = conn ss size 0 0 [] ms 1 false in
      let k2 : Connection R = conn ss size h 0 [] ms 1 false in
      let k3 : Connection R = conn ss size h a [] ms 1 false in
      moved_on (free_rules status) w c k2 (Arrives a) k3 (refl, omega arith, ap (λ (x : ℕ). conn ss size h x [] ms 1 false) (sym (zero-add a)))
      (moved_on (free_rules status) w c k1 (Hands h) k2 (refl, (0, omega arith, refl), omega arith, ap (λ (x : ℕ). conn ss size x 0 [] ms 1 false) (sym (zero-add h)))
      (moved_on (free_rules status) w c k0 Reads k1 (refl, omega arith, refl) m))

  -- ---- one call, which asks for a reply

  none_settled : (h a n : ℕ) (ms : List (Sent R)) → IsSettled (conn ss size h a [] ms n false)
  none_settled h a n ms seat r s e at two = absurd (none_at seat (Dispatched r) e)

  one_settled : (h a n : ℕ) (t : Turn R) → IsSettled (conn ss size h a (t ∷ []) (Validate ∷ Answer 0 (reply_of t) ∷ []) n false)
  one_settled h a n t zero r s e at two = (1, reply_of t, refl)
  one_settled h a n t (suc m) r s e at two = absurd (none_at m (Dispatched r) e)

  ready : (h a n : ℕ) (s : Seat) → slice_get ss 0 ≡ Some s → s.ends ≤ a → IsReady {R = R} (conn ss size h a [] (Validate ∷ []) n false) s
  ready h a n s at whole = record {
    next = at;
    whole = whole;
    settled = none_settled h a n (Validate ∷ []);
    unclosed = no_close_in_greeting;
    here = refl;
  }

  had : (h a n : ℕ) (s : Seat) (v : Invocation C R) (t : Turn R) → slice_get ss 0 ≡ Some s → s.ends ≤ a → s.twoway ≡ true → w.invocations s.invocation ≡ Some v → IsAllowed status t
      → At h a [] (Validate ∷ []) n false → Moved (free_rules status) w c (has_turn (conn ss size h a [] (Validate ∷ []) n false) true t)
  had h a n s v t at whole two started allowed m =
      subst (λ (b : Bool). Moved (free_rules status) w c (has_turn (conn ss size h a [] (Validate ∷ []) n false) b t)) two
      (moved_turn status w c v (conn ss size h a [] (Validate ∷ []) n false) s t (ready h a n s at whole) started allowed m)

  answered : (h a n : ℕ) (s : Seat) (t : Turn R) → slice_get ss 0 ≡ Some s → s.twoway ≡ true
      → Moved (free_rules status) w c (has_turn (conn ss size h a [] (Validate ∷ []) n false) true t)
      → At h a (t ∷ []) (Validate ∷ Answer 0 (reply_of t) ∷ []) n false
  answered h a n s (Dispatched r) at two m =
      moved_on (free_rules status) w c (conn ss size h a (Dispatched r ∷ []) (Validate ∷ []) n false) (Answers 0 r)
      (conn ss size h a (Dispatched r ∷ []) (Validate ∷ Answer 0 r ∷ []) n false)
      (s, refl, refl, at, two, (λ (q, x, e). no_answer_in_greeting 0 q x e), refl) m
  answered h a n s (Refused r) at two m = m

  close_one : (h a n : ℕ) (t : Turn R) (closes : Bool) → At h a (t ∷ []) (Validate ∷ Answer 0 (reply_of t) ∷ []) n false
      → At h a (t ∷ []) (said true (t ∷ []) closes) n false
  close_one h a n t false m = m
  close_one h a n t true m =
      moved_on (free_rules status) w c (conn ss size h a (t ∷ []) (Validate ∷ Answer 0 (reply_of t) ∷ []) n false) Closes
      (conn ss size h a (t ∷ []) (Validate ∷ Answer 0 (reply_of t) ∷ Close ∷ []) n false)
      (refl, one_settled h a n t, no_close_when_answered (reply_of t), refl) m

  close_none : (h a n : ℕ) (closes : Bool) → At h a [] (Validate ∷ []) n false → At h a [] (Validate ∷ closing closes) n false
  close_none h a n false m = m
  close_none h a n true m =
      moved_on (free_rules status) w c (conn ss size h a [] (Validate ∷ []) n false) Closes
      (conn ss size h a [] (Validate ∷ Close ∷ []) n false)
      (refl, none_settled h a n (Validate ∷ []), no_close_in_greeting, refl) m

  serve_twoway : (h a n : ℕ) (ts : List (Turn R)) (closes : Bool) → AreAsked {C = C} {R = R} w ss true size → length ss ≡ 1
      → length ts ≤ 1 → (0 < length ts → size ≤ a) → ((m : ℕ) (t : Turn R) → slice_get ts m ≡ Some t → IsAllowed status t)
      → At h a [] (Validate ∷ []) n false → At h a ts (said true ts closes) n false
  serve_twoway h a n [] closes asked one room whole allowed m = close_none h a n closes m
  serve_twoway h a n (t ∷ []) closes asked one room whole allowed m =
      let at = get_some ss 0 (omega arith) in
      let s = asked.each 0 at.0 at.1 in
      let ends = s.1 in
      let here = whole (omega arith) in
      close_one h a n t closes
      (answered h a n at.0 t at.1 s.0
      (had h a n at.0 s.2.0 t at.1 (omega arith) s.0 s.2.1 (allowed 0 t refl) m))
  serve_twoway h a n (t ∷ u ∷ ts) closes asked one room whole allowed m = absurd (omega arith)

  -- ---- calls that ask for no reply, one after the other

  oneway_settled : (h a n : ℕ) (ts : List (Turn R)) (ms : List (Sent R)) → AreAsked {C = C} {R = R} w ss false size → IsSettled (conn ss size h a ts ms n false)
  oneway_settled h a n ts ms asked seat r s e at two = absurd (true_false (sym two ∙ (asked.each seat s at).0))

  each_served : (h a n : ℕ) (rest done : List (Turn R)) → AreAsked {C = C} {R = R} w ss false size → size ≤ a
      → length done + length rest ≤ length ss → ((m : ℕ) (t : Turn R) → slice_get rest m ≡ Some t → IsAllowed status t)
      → At h a done (Validate ∷ []) n false → At h a (done ++ rest) (Validate ∷ []) n false
  each_served h a n [] done asked whole room allowed m =
      subst (λ (xs : List (Turn R)). At h a xs (Validate ∷ []) n false) (sym (append-nil done)) m
  each_served h a n (t ∷ rest) done asked whole room allowed m =
      let at = get_some ss (length done) (omega arith) in
      let s = asked.each (length done) at.0 at.1 in
      let ends = s.1 in
      let len = more_long done t in
      let k : Connection R = conn ss size h a done (Validate ∷ []) n false in
      let ready : IsReady {R = R} k at.0 = record {
        next = at.1;
        whole = omega arith;
        settled = oneway_settled h a n done (Validate ∷ []) asked;
        unclosed = no_close_in_greeting;
        here = refl;
      } in
      let turned : Moved (free_rules status) w c (has_turn k false t) =
      subst (λ (b : Bool). Moved (free_rules status) w c (has_turn k b t)) s.0
      (moved_turn status w c s.2.0 k at.0 t ready s.2.1 (allowed 0 t refl) m) in
      subst (λ (xs : List (Turn R)). At h a xs (Validate ∷ []) n false) (append_assoc done (t ∷ []) rest)
      (each_served h a n rest (done ++ t ∷ []) asked whole (omega arith) (λ p u e. allowed (suc p) u e) (plain h a n done t turned))
    where
      plain : (h a n : ℕ) (done : List (Turn R)) (t : Turn R) → Moved (free_rules status) w c (has_turn (conn ss size h a done (Validate ∷ []) n false) false t)
          → At h a (done ++ t ∷ []) (Validate ∷ []) n false
      plain h a n done (Dispatched r) m = m
      plain h a n done (Refused r) m = m

  close_all : (h a n : ℕ) (ts : List (Turn R)) (closes : Bool) → AreAsked {C = C} {R = R} w ss false size
      → At h a ts (Validate ∷ []) n false → At h a ts (Validate ∷ closing closes) n false
  close_all h a n ts false asked m = m
  close_all h a n ts true asked m =
      moved_on (free_rules status) w c (conn ss size h a ts (Validate ∷ []) n false) Closes
      (conn ss size h a ts (Validate ∷ Close ∷ []) n false)
      (refl, oneway_settled h a n ts (Validate ∷ []) asked, no_close_in_greeting, refl) m

  served_oneway : (h a n : ℕ) (ts : List (Turn R)) → AreAsked {C = C} {R = R} w ss false size
      → length ts ≤ length ss → (0 < length ts → size ≤ a) → ((m : ℕ) (t : Turn R) → slice_get ts m ≡ Some t → IsAllowed status t)
      → At h a [] (Validate ∷ []) n false → At h a ts (Validate ∷ []) n false
  served_oneway h a n [] asked room whole allowed m = m
  served_oneway h a n (t ∷ ts) asked room whole allowed m =
      each_served h a n (t ∷ ts) [] asked (whole (omega arith)) (omega arith) allowed m

  serve : (twoway : Bool) (h a n : ℕ) (ts : List (Turn R)) (closes : Bool) → AreAsked {C = C} {R = R} w ss twoway size → (twoway ≡ true → length ss ≡ 1)
      → length ts ≤ length ss → (0 < length ts → size ≤ a) → ((m : ℕ) (t : Turn R) → slice_get ts m ≡ Some t → IsAllowed status t)
      → At h a [] (Validate ∷ []) n false → At h a ts (said twoway ts closes) n false
  serve true h a n ts closes asked one room whole allowed m =
      let l = one refl in
      serve_twoway h a n ts closes asked l (omega arith) whole allowed m
  serve false h a n ts closes asked one room whole allowed m =
      close_all h a n ts closes asked (served_oneway h a n ts asked room whole allowed m)

  -- ---- the client reads on, and leaves

  reads_on : (h a : ℕ) (ts : List (Turn R)) (ms : List (Sent R)) (n m : ℕ) → n + m ≤ length ms → At h a ts ms n false → At h a ts ms (n + m) false
  reads_on h a ts ms n zero room k = subst (λ (x : ℕ). At h a ts ms x false) (let e : n ≡ n + 0 = omega arith in e) k
  reads_on h a ts ms n (suc m) room k =
      let e : n + 1 + m ≡ n + suc m = omega arith in
      subst (λ (x : ℕ). At h a ts ms x false) e
      (reads_on h a ts ms (n + 1) m (omega arith)
      (moved_on (free_rules status) w c (conn ss size h a ts ms n false) Reads (conn ss size h a ts ms (n + 1) false) (refl, omega arith, refl) k))

  leaves : (h a : ℕ) (ts : List (Turn R)) (ms : List (Sent R)) (n : ℕ) → At h a ts ms n false → At h a ts ms n true
  leaves h a ts ms n m =
      moved_on (free_rules status) w c (conn ss size h a ts ms n false) ClientLeaves (conn ss size h a ts ms n true) (refl, refl) m

  -- the whole connection, from its message
  carries : (twoway : Bool) (h a n : ℕ) (served : Option (List (Turn R) × Bool)) → AreAsked {C = C} {R = R} w ss twoway size → (twoway ≡ true → length ss ≡ 1)
      → IsLink status twoway size (length ss) (record { handed = h; arrived = a; read = n; served = served })
      → At 0 0 [] [] 0 false → At h a (turns_at served) (said_at twoway served) n true
  carries twoway h a n None asked one l m =
      let none : n ≤ 0 = l.read in
      let x : 0 ≡ n = omega arith in
      let g = l.greeted in
      let y : 0 ≡ h = none_handed h (λ p. let q : 0 < n = g p in omega arith) in
      let b : a ≤ h = l.arrived in
      let u : 0 ≡ a = omega arith in
      subst (λ (p : ℕ). At h a [] [] p true) x
      (subst (λ (p : ℕ). At h p [] [] 0 true) u
      (subst (λ (p : ℕ). At p 0 [] [] 0 true) y (leaves 0 0 [] [] 0 m)))
  carries twoway h a n (Some s) asked one l m =
      let all = all_read n in
      let room = l.read in
      leaves h a s.0 (said twoway s.0 s.1) n
      (subst (λ (x : ℕ). At h a s.0 (said twoway s.0 s.1) x false) all
      (reads_on h a s.0 (said twoway s.0 s.1) (first_read n) (rest_read n) (omega arith)
      (serve twoway h a (first_read n) s.0 s.1 asked one l.room l.whole l.allowed (hand h a n l.greeted l.arrived l.handed (greet m)))))

  pub carried : (twoway : Bool) (l : Link R) → AreAsked {C = C} {R = R} w ss twoway size → (twoway ≡ true → length ss ≡ 1) → IsLink status twoway size (length ss) l
      → w.connections c ≡ conn ss size 0 0 [] [] 0 false → Moved (free_rules status) w c (linked ss twoway size l)
  carried twoway l asked one fits here =
      carries twoway l.handed l.arrived l.read l.served asked one fits
      (record { world = w; reach = ([], refl); here = here; others = λ d other. refl; same = refl })
