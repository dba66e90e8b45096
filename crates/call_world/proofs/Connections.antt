-- What each event keeps of a connection: that it is sound, and that a seat which is doomed stays so.
use Rattle.std.proofs.Common.{◌≡◌, ℕ, ◌+◌, ◌<◌, ◌≤◌, ◌⊎◌, inl, inr, [], ◌∷◌, ◌++◌, length, Option, None, Some, refl, ap, sym, ◌∙◌, subst, arith, Bool, true, false, length-append}
use Rattle.std.specs.Prelude.{slice_get}
use Rattle.call_world.specs.Service.{IsRefusal}
use Rattle.call_world.specs.World.{Connection, Seat, Turn, Dispatched, Refused, Sent, Validate, Answer, Close, fresh}
use Rattle.call_world.specs.Dead.{IsDeadSeat, NotWhole, Closed, Stale}
use Rattle.call_world.specs.Connection.{ConnectionEvent, Validates, Hands, Arrives, Answers, Closes, Reads, ClientLeaves, ServerLeaves, ConnectionStep, IsSettled, IsReady, says, begun, seated, turned, refused}
use Rattle.call_world.specs.Reached.{IsSound}
use Rattle.call_world.proofs.Lists.{get_old, get_last, get_cases, get_within}

-- why a seat is never dispatched from now on
pub data Bar {R : Type 0} (k : Connection R) (seat : ℕ) : Type 0 where
  CutShort : (s : Seat) → slice_get k.asked seat ≡ Some s → k.client_left ≡ true → k.handed < s.ends → Bar k seat
  Shut : (m : ℕ) → slice_get k.answered m ≡ Some Close → Bar k seat
  TurnedAway : (r : R) → slice_get k.turns seat ≡ Some (Refused r) → Bar k seat

-- what a dead seat is, said so that every event keeps it
pub record IsDoomed {R : Type 0} (k : Connection R) (seat : ℕ) : Type 0 where
  pub never : (r : R) → ¬ (slice_get k.turns seat ≡ Some (Dispatched r))
  pub bar : Bar k seat

pub record IsKept {R : Type 0} (status : R → ℕ) (k k' : Connection R) : Type 0 where
  pub sound : IsSound status k → IsSound status k'
  pub doomed : IsSound status k → (seat : ℕ) → IsDoomed k seat → IsDoomed k' seat
  pub asked : (n : ℕ) (s : Seat) → slice_get k.asked n ≡ Some s → slice_get k'.asked n ≡ Some s
  pub turns : (n : ℕ) (t : Turn R) → slice_get k.turns n ≡ Some t → slice_get k'.turns n ≡ Some t

pub kept_refl : {R : Type 0} (status : R → ℕ) (k : Connection R) → IsKept status k k
kept_refl status k = record { sound = λ h. h; doomed = λ _ _ h. h; asked = λ _ _ h. h; turns = λ _ _ h. h }

pub kept_trans : {R : Type 0} (status : R → ℕ) (a b c : Connection R) → IsKept status a b → IsKept status b c → IsKept status a c
kept_trans status a b c p q = record {
  sound = λ h. q.sound (p.sound h);
  doomed = λ h seat d. q.doomed (p.sound h) seat (p.doomed h seat d);
  asked = λ n s h. q.asked n s (p.asked n s h);
  turns = λ n t h. q.turns n t (p.turns n t h);
}

pub fresh_sound : {R : Type 0} (status : R → ℕ) → IsSound status fresh
fresh_sound {R} status = record {
  arrived = omega arith;
  handed = omega arith;
  read = omega arith;
  whole = λ n t h. absurd (let z : None ≡ Some t = h in cc);
  dispatched = λ n r h. absurd (let z : None ≡ Some (Dispatched r) = h in cc);
  refused = λ n r h. absurd (let z : None ≡ Some (Refused r) = h in cc);
  answers = λ m n r h. absurd (let z : None ≡ Some (Answer n r) = h in cc);
  closed = λ m n r x h t at two. absurd (let z : None ≡ Some (Dispatched r) = t in cc);
}

same_seat : (a b : Seat) (o : Option Seat) → o ≡ Some a → o ≡ Some b → a ≡ b
same_seat a b o p q = let e : Some a ≡ Some b = sym p ∙ q in cc

-- what the client can tell is so
pub doomed_from_dead : {R : Type 0} (status : R → ℕ) (k : Connection R) (seat : ℕ) → IsSound status k → IsDeadSeat status k seat → IsDoomed k seat
doomed_from_dead {R} status k seat sound (NotWhole s at left short) = record {
  never = λ r t.
      let w = sound.whole seat (Dispatched r) t in
      let same = same_seat s w.0 (slice_get k.asked seat) at w.1 in
      let a = sound.arrived in
      let b = w.2 in
      let c : k.handed < w.0.ends = subst (λ (x : Seat). k.handed < x.ends) same short in
      omega arith;
  bar = CutShort s at left short;
}
doomed_from_dead {R} status k seat sound (Closed s at two read none) = record {
  never = λ r t.
      let before = sound.closed read.0 seat r s read.2 t at two in
      let a = read.1 in
      let b = before.2 in
      none before.1 (before.0, omega arith, before.3);
  bar = Shut read.0 read.2;
}
doomed_from_dead {R} status k seat sound (Stale r read two) =
    elim (sound.answers read.0 seat r read.2) [
      | inl t ↦ absurd (sound.dispatched seat r t (inl two))
      | inr t ↦ record {
        never = λ q u. let e : Some (Dispatched q) ≡ Some (Refused r) = sym u ∙ t in cc;
        bar = TurnedAway r t;
      }
    ]

-- only the counts of bytes and messages rise, or an end leaves
module _ {R : Type 0} (status : R → ℕ) (k : Connection R) (asked_bytes handed arrived read : ℕ) (client_left server_left : Bool) where
  kept_counts :
      (k.arrived ≤ arrived) → (k.arrived ≤ k.handed → arrived ≤ handed)
      → (k.handed ≤ k.asked_bytes → handed ≤ asked_bytes)
      → (k.read ≤ length k.answered → read ≤ length k.answered)
      → (k.client_left ≡ true → (client_left ≡ true) × (handed ≡ k.handed))
      → IsKept status k (record k {
        asked_bytes = asked_bytes;
        handed = handed;
        arrived = arrived;
        read = read;
        client_left = client_left;
        server_left = server_left;
      })
  kept_counts rises within asks reads leaves = record {
    sound = λ s. record {
      arrived = within s.arrived;
      handed = asks s.handed;
      read = reads s.read;
      whole = λ n t h. let w = s.whole n t h in let z = w.2 in (w.0, w.1, omega arith);
      dispatched = s.dispatched;
      refused = s.refused;
      answers = s.answers;
      closed = s.closed;
    };
    doomed = λ s seat d. record {
      never = d.never;
      bar = elim d.bar [
        | CutShort x at left short ↦
            let l = leaves left in let e = l.1 in CutShort x at l.0 (omega arith)
        | Shut m c ↦ Shut m c
        | TurnedAway r t ↦ TurnedAway r t
      ];
    };
    asked = λ n x h. h;
    turns = λ n t h. h;
  }

-- a message that the server begins to send
kept_says : {R : Type 0} (status : R → ℕ) (k : Connection R) (m : Sent R)
    → ((n : ℕ) (r : R) → m ≡ Answer n r → (slice_get k.turns n ≡ Some (Dispatched r)) ⊎ (slice_get k.turns n ≡ Some (Refused r)))
    → (m ≡ Close → IsSettled k) → IsKept status k (says k m)
kept_says {R} status k m told settled = record {
  sound = λ s. record {
    arrived = s.arrived;
    handed = s.handed;
    read = let a = s.read in let l = length-append k.answered (m ∷ []) in omega arith;
    whole = s.whole;
    dispatched = s.dispatched;
    refused = s.refused;
    answers = λ i n r h. elim (get_cases k.answered m i (Answer n r) h) [
      | inl old ↦ s.answers i n r old
      | inr new ↦ told n r new.1
    ];
    closed = λ i n r x h t at two. elim (get_cases k.answered m i Close h) [
      | inl old ↦ let c = s.closed i n r x old t at two in (c.0, c.1, c.2, get_old k.answered m c.0 (Answer n c.1) c.3)
      | inr new ↦
          let a = settled new.1 n r x t at two in
          let w = get_within k.answered a.0 (Answer n a.1) a.2 in
          let e = new.0 in
          (a.0, a.1, omega arith, get_old k.answered m a.0 (Answer n a.1) a.2)
    ];
  };
  doomed = λ s seat d. record {
    never = d.never;
    bar = elim d.bar [
      | CutShort x at left short ↦ CutShort x at left short
      | Shut i c ↦ Shut i (get_old k.answered m i Close c)
      | TurnedAway r t ↦ TurnedAway r t
    ];
  };
  asked = λ n x h. h;
  turns = λ n t h. h;
}

-- the next seat has its turn
kept_turned : {R : Type 0} (status : R → ℕ) (k : Connection R) (seat : Seat) (t : Turn R) → IsReady k seat
    → ((r : R) → t ≡ Dispatched r → ¬ IsRefusal (status r)) → ((r : R) → t ≡ Refused r → IsRefusal (status r))
    → IsKept status k (turned k t)
kept_turned {R} status k seat t ready given refuses = record {
  sound = λ s. record {
    arrived = s.arrived;
    handed = s.handed;
    read = s.read;
    whole = λ n u h. elim (get_cases k.turns t n u h) [
      | inl old ↦ s.whole n u old
      | inr new ↦ (seat, ap (slice_get k.asked) new.0 ∙ ready.next, ready.whole)
    ];
    dispatched = λ n r h. elim (get_cases k.turns t n (Dispatched r) h) [
      | inl old ↦ s.dispatched n r old
      | inr new ↦ given r new.1
    ];
    refused = λ n r h. elim (get_cases k.turns t n (Refused r) h) [
      | inl old ↦ s.refused n r old
      | inr new ↦ refuses r new.1
    ];
    answers = λ i n r h. elim (s.answers i n r h) [
      | inl a ↦ inl (get_old k.turns t n (Dispatched r) a)
      | inr a ↦ inr (get_old k.turns t n (Refused r) a)
    ];
    closed = λ i n r x h u at two. absurd (ready.unclosed i h);
  };
  doomed = λ s n d. record {
    never = λ r h. elim (get_cases k.turns t n (Dispatched r) h) [
      | inl old ↦ d.never r old
      | inr new ↦ elim d.bar [
        | CutShort x at left short ↦
            let same = same_seat x seat (slice_get k.asked n) at (ap (slice_get k.asked) new.0 ∙ ready.next) in
            let a = s.arrived in
            let b = ready.whole in
            let c : k.handed < seat.ends = subst (λ (y : Seat). k.handed < y.ends) same short in
            omega arith
        | Shut i c ↦ ready.unclosed i c
        | TurnedAway q u ↦
            let w = get_within k.turns n (Refused q) u in
            let e = new.0 in
            omega arith
      ]
    ];
    bar = elim d.bar [
      | CutShort x at left short ↦ CutShort x at left short
      | Shut i c ↦ Shut i c
      | TurnedAway q u ↦ TurnedAway q (get_old k.turns t n (Refused q) u)
    ];
  };
  asked = λ n x h. h;
  turns = λ n u h. get_old k.turns t n u h;
}

pub kept_dispatched : {R : Type 0} (status : R → ℕ) (k : Connection R) (seat : Seat) (r : R) → IsReady k seat → ¬ IsRefusal (status r) → IsKept status k (turned k (Dispatched r))
kept_dispatched {R} status k seat r ready given =
    kept_turned status k seat (Dispatched r) ready
    (λ q e. let e' : r ≡ q = cc in subst (λ (x : R). ¬ IsRefusal (status x)) e' given)
    (λ q e. cc)

kept_turned_away : {R : Type 0} (status : R → ℕ) (k : Connection R) (seat : Seat) (r : R) → IsReady k seat → IsRefusal (status r) → IsKept status k (turned k (Refused r))
kept_turned_away {R} status k seat r ready given =
    kept_turned status k seat (Refused r) ready (λ q e. cc)
    (λ q e. let e' : r ≡ q = cc in subst (λ (x : R). IsRefusal (status x)) e' given)

pub kept_refused : {R : Type 0} (status : R → ℕ) (k : Connection R) (seat : Seat) (r : R) (twoway : Bool) → IsReady k seat → IsRefusal (status r) → IsKept status k (refused k twoway r)
kept_refused status k seat r false ready given = kept_turned_away status k seat r ready given
kept_refused {R} status k seat r true ready given =
    kept_trans status k (turned k (Refused r)) (says (turned k (Refused r)) (Answer (length k.turns) r))
    (kept_turned_away status k seat r ready given)
    (kept_says status (turned k (Refused r)) (Answer (length k.turns) r)
    (λ n q e.
    let a : length k.turns ≡ n = cc in
    let b : r ≡ q = cc in
    inr (subst (λ (m : ℕ). slice_get (k.turns ++ Refused r ∷ []) m ≡ Some (Refused q)) a
    (get_last k.turns (Refused r) ∙ ap (λ (x : R). Some (Refused x)) b)))
    (λ e. cc))

pub refused_asked : {R : Type 0} (k : Connection R) (twoway : Bool) (r : R) → (refused k twoway r).asked ≡ k.asked
refused_asked k true r = refl
refused_asked k false r = refl

pub refused_turns : {R : Type 0} (k : Connection R) (twoway : Bool) (r : R) → (refused k twoway r).turns ≡ k.turns ++ Refused r ∷ []
refused_turns k true r = refl
refused_turns k false r = refl

-- one call more is asked, by a client that has not left
pub kept_seated : {R : Type 0} (status : R → ℕ) (k : Connection R) (i : ℕ) (twoway : Bool) → k.client_left ≡ false → IsKept status k (seated k i twoway)
kept_seated {R} status k i twoway here =
    let x : Seat = record { invocation = i; twoway = twoway; ends = k.asked_bytes } in
    record {
      sound = λ s. record {
        arrived = s.arrived;
        handed = s.handed;
        read = s.read;
        whole = λ n t h. let w = s.whole n t h in (w.0, get_old k.asked x n w.0 w.1, w.2);
        dispatched = s.dispatched;
        refused = s.refused;
        answers = s.answers;
        closed = λ m n r y h t at two.
            let w = s.whole n (Dispatched r) t in
            let same = same_seat w.0 y (slice_get (k.asked ++ x ∷ []) n) (get_old k.asked x n w.0 w.1) at in
            s.closed m n r w.0 h t w.1 (ap (λ (z : Seat). z.twoway) same ∙ two);
      };
      doomed = λ s seat d. record {
        never = d.never;
        bar = elim d.bar [
          | CutShort y at left short ↦ absurd (let e : true ≡ false = sym left ∙ here in cc)
          | Shut j c ↦ Shut j c
          | TurnedAway q u ↦ TurnedAway q u
        ];
      };
      asked = λ n y h. get_old k.asked x n y h;
      turns = λ n t h. h;
    }

pub kept_begun : {R : Type 0} (status : R → ℕ) (k : Connection R) (size : ℕ) → IsKept status k (begun k size)
kept_begun status k size =
    kept_counts status k (k.asked_bytes + size) k.handed k.arrived k.read k.client_left k.server_left
    (omega arith) (λ h. h) (λ h. omega arith) (λ h. h) (λ left. (left, refl))

pub kept_connection : {R : Type 0} (status : R → ℕ) (k : Connection R) (e : ConnectionEvent R) (k' : Connection R) → ConnectionStep k e k' → IsKept status k k'
kept_connection status k Validates k' (here, first, e) =
    subst (IsKept status k) (sym e) (kept_says status k Validate (λ n r q. cc) (λ q. cc))
kept_connection status k (Hands n) k' (here, validated, within, e) =
    subst (IsKept status k) (sym e)
    (kept_counts status k k.asked_bytes (k.handed + n) k.arrived k.read k.client_left k.server_left
    (omega arith) (λ h. omega arith) (λ h. within) (λ h. h)
    (λ left. absurd (let z : true ≡ false = sym left ∙ here in cc)))
kept_connection status k (Arrives n) k' (here, within, e) =
    subst (IsKept status k) (sym e)
    (kept_counts status k k.asked_bytes k.handed (k.arrived + n) k.read k.client_left k.server_left
    (omega arith) (λ h. within) (λ h. h) (λ h. h) (λ left. (left, refl)))
kept_connection {R} status k (Answers seat r) k' (s, here, turn, at, two, first, e) =
    subst (IsKept status k) (sym e) (kept_says status k (Answer seat r)
    (λ n q f.
    let x : seat ≡ n = cc in
    let y : r ≡ q = cc in
    inl (subst (λ (m : ℕ). slice_get k.turns m ≡ Some (Dispatched q)) x (turn ∙ ap (λ (z : R). Some (Dispatched z)) y)))
    (λ f. cc))
kept_connection status k Closes k' (here, settled, first, e) =
    subst (IsKept status k) (sym e) (kept_says status k Close (λ n r q. cc) (λ q. settled))
kept_connection status k Reads k' (here, within, e) =
    subst (IsKept status k) (sym e)
    (kept_counts status k k.asked_bytes k.handed k.arrived (k.read + 1) k.client_left k.server_left
    (omega arith) (λ h. h) (λ h. h) (λ h. omega arith) (λ left. (left, refl)))
kept_connection status k ClientLeaves k' (here, e) =
    subst (IsKept status k) (sym e)
    (kept_counts status k k.asked_bytes k.handed k.arrived k.read true k.server_left
    (omega arith) (λ h. h) (λ h. h) (λ h. h) (λ left. (refl, refl)))
kept_connection status k ServerLeaves k' (here, e) =
    subst (IsKept status k) (sym e)
    (kept_counts status k k.asked_bytes k.handed k.arrived k.read k.client_left true
    (omega arith) (λ h. h) (λ h. h) (λ h. h) (λ left. (left, refl)))

-- these events give no call a seat and no seat a turn
pub connection_beside : {R : Type 0} (k : Connection R) (e : ConnectionEvent R) (k' : Connection R) → ConnectionStep k e k' → (k'.asked ≡ k.asked) × (k'.turns ≡ k.turns)
connection_beside k Validates k' (a, b, e) = (ap (λ z. z.asked) e, ap (λ z. z.turns) e)
connection_beside k (Hands n) k' (a, b, c, e) = (ap (λ z. z.asked) e, ap (λ z. z.turns) e)
connection_beside k (Arrives n) k' (a, b, e) = (ap (λ z. z.asked) e, ap (λ z. z.turns) e)
connection_beside k (Answers seat r) k' (x, a, b, at, two, c, e) = (ap (λ z. z.asked) e, ap (λ z. z.turns) e)
connection_beside k Closes k' (a, b, c, e) = (ap (λ z. z.asked) e, ap (λ z. z.turns) e)
connection_beside k Reads k' (a, b, e) = (ap (λ z. z.asked) e, ap (λ z. z.turns) e)
connection_beside k ClientLeaves k' (a, e) = (ap (λ z. z.asked) e, ap (λ z. z.turns) e)
connection_beside k ServerLeaves k' (a, e) = (ap (λ z. z.asked) e, ap (λ z. z.turns) e)
