-- What each reached world keeps, for the proofs that stand on this crate.
use Rattle.std.specs.Prelude.{◌≡◌, ℕ, ◌<◌, ◌≤◌, ◌⊎◌, true, Some, slice_get, length}
use Rattle.call_world.specs.Service.{IsRefusal}
use Rattle.call_world.specs.World.{World, Connection, Seat, Turn, Dispatched, Refused, Answer, Close, Place, Invocation, Dispatch}

-- what holds of each connection
pub record IsSound {R : Type 0} (status : R → ℕ) (k : Connection R) : Type 0 where
  pub arrived : k.arrived ≤ k.handed
  pub handed : k.handed ≤ k.asked_bytes
  pub read : k.read ≤ length k.answered
  -- a seat had its turn only when its message had arrived whole
  pub whole :
      (n : ℕ) (t : Turn R) → slice_get k.turns n ≡ Some t
      → (s : Seat) × (slice_get k.asked n ≡ Some s) × (s.ends ≤ k.arrived)
  pub dispatched : (n : ℕ) (r : R) → slice_get k.turns n ≡ Some (Dispatched r) → ¬ IsRefusal (status r)
  pub refused : (n : ℕ) (r : R) → slice_get k.turns n ≡ Some (Refused r) → IsRefusal (status r)
  -- each answer is the reply of its seat's turn
  pub answers :
      (m n : ℕ) (r : R) → slice_get k.answered m ≡ Some (Answer n r)
      → (slice_get k.turns n ≡ Some (Dispatched r)) ⊎ (slice_get k.turns n ≡ Some (Refused r))
  -- before a close stands the answer of each seat that was dispatched and asks for a reply
  pub closed :
      (m n : ℕ) (r : R) (s : Seat) → slice_get k.answered m ≡ Some Close → slice_get k.turns n ≡ Some (Dispatched r)
      → slice_get k.asked n ≡ Some s → s.twoway ≡ true
      → (j : ℕ) × (q : R) × (j < m) × (slice_get k.answered j ≡ Some (Answer n q))

-- the place p is a seat of invocation i
pub record IsSeatOf {C R O : Type 0} (w : World C R O) (p : Place) (i : ℕ) : Type 0 where
  pub seat : Seat
  pub asked : slice_get (w.connections p.connection).asked p.seat ≡ Some seat
  pub own : seat.invocation ≡ i

-- the place p is that of an attempt of invocation i
pub record IsAttemptOf {C R O : Type 0} (w : World C R O) (i : ℕ) (p : Place) : Type 0 where
  pub invocation : Invocation C R
  pub started : w.invocations i ≡ Some invocation
  pub number : ℕ
  pub attempt : slice_get invocation.attempts number ≡ Some (Some p)

-- the seats of an invocation are the places of its attempts
pub record IsSeated {C R O : Type 0} (w : World C R O) : Type 0 where
  pub placed :
      (i : ℕ) (v : Invocation C R) (n : ℕ) (p : Place) → w.invocations i ≡ Some v
      → slice_get v.attempts n ≡ Some (Some p) → IsSeatOf w p i
  pub listed :
      (p : Place) (s : Seat) → slice_get (w.connections p.connection).asked p.seat ≡ Some s
      → IsAttemptOf w s.invocation p

-- the log of dispatches is that of the seats that had such a turn, each place once
pub record IsLogged {C R O : Type 0} (w : World C R O) : Type 0 where
  pub recorded :
      (n : ℕ) (d : Dispatch R) → slice_get w.dispatches n ≡ Some d
      → slice_get (w.connections d.connection).turns d.seat ≡ Some (Dispatched d.reply)
  pub known :
      (c s : ℕ) (r : R) → slice_get (w.connections c).turns s ≡ Some (Dispatched r)
      → (n : ℕ) × (slice_get w.dispatches n ≡ Some (record { connection = c; seat = s; reply = r }))
  pub distinct :
      (m n : ℕ) (d e : Dispatch R) → slice_get w.dispatches m ≡ Some d → slice_get w.dispatches n ≡ Some e
      → d.connection ≡ e.connection → d.seat ≡ e.seat → m ≡ n
