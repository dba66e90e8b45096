-- What can happen on one connection alone.
-- (Ice manual, "The Ice Protocol", "Protocol Messages" and "Protocol State Diagrams"; "Closing Connections".)
use Rattle.std.specs.Prelude.{◌≡◌, ℕ, ◌+◌, ◌<◌, ◌≤◌, [], ◌∷◌, ◌++◌, Bool, true, false, Some, slice_get, length}
use Rattle.call_world.specs.World.{Connection, Seat, Sent, Validate, Answer, Close, Turn, Dispatched, Refused}
use Rattle.call_world.specs.Dead.{HasRead}

-- what can happen on one connection alone: validate, bytes handed over, bytes arriving, an answer, a close, a read,
-- either end leaving, each with what has to hold before
pub data ConnectionEvent (R : Type 0) : Type 0 where
  Validates : ConnectionEvent R
  -- the client hands over so many bytes more; so many bytes more reach the server
  Hands : ℕ → ConnectionEvent R
  Arrives : ℕ → ConnectionEvent R
  -- the server begins to send the reply of a seat
  Answers : ℕ → R → ConnectionEvent R
  Closes : ConnectionEvent R
  -- the client reads one message more
  Reads : ConnectionEvent R
  ClientLeaves : ConnectionEvent R
  ServerLeaves : ConnectionEvent R

-- the server began to send an answer for the seat
abbrev pub IsAnswered : {R : Type 0} → Connection R → ℕ → Type 0
IsAnswered {R} k seat = (n : ℕ) × (r : R) × (slice_get k.answered n ≡ Some (Answer seat r))

-- no close was begun
abbrev pub IsOpen : {R : Type 0} → Connection R → Type 0
IsOpen {R} k = (n : ℕ) → ¬ (slice_get k.answered n ≡ Some Close)

-- each seat that was dispatched and asks for a reply has its answer
abbrev pub IsSettled : {R : Type 0} → Connection R → Type 0
IsSettled {R} k =
    (seat : ℕ) (r : R) (s : Seat) → slice_get k.turns seat ≡ Some (Dispatched r)
    → slice_get k.asked seat ≡ Some s → s.twoway ≡ true → IsAnswered k seat

-- the server begins to send a message
abbrev pub says : {R : Type 0} → Connection R → Sent R → Connection R
says k message = record k { answered = k.answered ++ message ∷ [] }

-- the event leads the connection k to k'
abbrev pub ConnectionStep : {R : Type 0} → Connection R → ConnectionEvent R → Connection R → Type 0
ConnectionStep k Validates k' = (k.server_left ≡ false) × (k.answered ≡ []) × (k' ≡ says k Validate)
ConnectionStep k (Hands n) k' =
    (k.client_left ≡ false) × HasRead k Validate × (k.handed + n ≤ k.asked_bytes)
    × (k' ≡ record k { handed = k.handed + n })
ConnectionStep k (Arrives n) k' =
    (k.server_left ≡ false) × (k.arrived + n ≤ k.handed) × (k' ≡ record k { arrived = k.arrived + n })
ConnectionStep k (Answers seat r) k' =
    (s : Seat) × (k.server_left ≡ false) × (slice_get k.turns seat ≡ Some (Dispatched r))
    × (slice_get k.asked seat ≡ Some s) × (s.twoway ≡ true) × (¬ IsAnswered k seat)
    × (k' ≡ says k (Answer seat r))
ConnectionStep k Closes k' = (k.server_left ≡ false) × IsSettled k × IsOpen k × (k' ≡ says k Close)
ConnectionStep k Reads k' =
    (k.client_left ≡ false) × (k.read < length k.answered) × (k' ≡ record k { read = k.read + 1 })
ConnectionStep k ClientLeaves k' = (k.client_left ≡ false) × (k' ≡ record k { client_left = true })
ConnectionStep k ServerLeaves k' = (k.server_left ≡ false) × (k' ≡ record k { server_left = true })

-- this is the seat whose turn it is, and it may have it: its message has arrived whole
pub record IsReady {R : Type 0} (k : Connection R) (seat : Seat) : Type 0 where
  pub next : slice_get k.asked (length k.turns) ≡ Some seat
  pub whole : seat.ends ≤ k.arrived
  pub settled : IsSettled k
  pub unclosed : IsOpen k
  pub here : k.server_left ≡ false

-- the next seat has this turn
abbrev pub turned : {R : Type 0} → Connection R → Turn R → Connection R
turned k turn = record k { turns = k.turns ++ turn ∷ [] }

-- the next seat is refused; this is answered where it asks for a reply
abbrev pub refused : {R : Type 0} → Connection R → Bool → R → Connection R
refused k true r = says (turned k (Refused r)) (Answer (length k.turns) r)
refused k false r = turned k (Refused r)

-- a message of this length is begun
abbrev pub begun : {R : Type 0} → Connection R → ℕ → Connection R
begun k size = record k { asked_bytes = k.asked_bytes + size }

-- one call more stands in the message that was begun last
abbrev pub seated : {R : Type 0} → Connection R → ℕ → Bool → Connection R
seated k invocation twoway = record k {
  asked = k.asked ++ record { invocation = invocation; twoway = twoway; ends = k.asked_bytes } ∷ [];
}
