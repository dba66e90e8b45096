-- When an attempt can never be dispatched any more, as its client can tell. (Ice manual, "Automatic Retries".)
use Rattle.std.specs.Prelude.{◌≡◌, ℕ, ◌<◌, true, Option, None, Some, slice_get}
use Rattle.call_world.specs.World.{World, Connection, Seat, Sent, Answer, Close, Place}

-- the client has read this message
abbrev pub HasRead : {R : Type 0} → Connection R → Sent R → Type 0
HasRead {R} k message = (n : ℕ) × (n < k.read) × (slice_get k.answered n ≡ Some message)

-- why a seat can never be dispatched any more, as its client can tell
pub data IsDeadSeat {R : Type 0} (status : R → ℕ) (k : Connection R) (seat : ℕ) : Type 0 where
  -- the client has left and handed over fewer bytes than reach the end of its message
  NotWhole : (s : Seat) → slice_get k.asked seat ≡ Some s → k.client_left ≡ true → k.handed < s.ends → IsDeadSeat status k seat
  -- it asks for a reply, and the client has read a close and no answer for it
  Closed : (s : Seat) → slice_get k.asked seat ≡ Some s → s.twoway ≡ true → HasRead k Close
      → ((r : R) → ¬ HasRead k (Answer seat r)) → IsDeadSeat status k seat
  -- the answer read for it says that there is no such object
  Stale : (r : R) → HasRead k (Answer seat r) → status r ≡ 2 → IsDeadSeat status k seat

-- an attempt that did not connect is dead too
abbrev pub IsDead : {C R O : Type 0} → (R → ℕ) → World C R O → Option Place → Type 0
IsDead status w None = Unit {0}
IsDead status w (Some p) = IsDeadSeat status (w.connections p.connection) p.seat
