-- All that clients and servers share: invocations, the connections between them, and what was dispatched.
-- (Ice manual, "The Ice Protocol", "Protocol Messages".)
use Rattle.std.specs.Prelude.{ℕ, Bool, false, List, [], Option, None, ◌==◌, if◌then◌else◌}

-- one call in what a client asked on a connection; the calls of one message stand one after the other
pub record Seat : Type 0 where
  pub invocation : ℕ
  -- it asks for a reply
  pub twoway : Bool
  -- its message reaches up to this byte of the connection
  pub ends : ℕ

-- what the server did with a seat
pub data Turn (R : Type 0) : Type 0 where
  Dispatched : R → Turn R
  Refused : R → Turn R

-- a message that the server began to send
pub data Sent (R : Type 0) : Type 0 where
  Validate : Sent R
  -- to the call in this seat
  Answer : ℕ → R → Sent R
  Close : Sent R

-- the seats asked on it, the bytes asked, handed over and arrived, the turns of the first seats, the messages that
-- the server began to send, how many of them the client has read, and whether each end has left
pub record Connection (R : Type 0) : Type 0 where
  pub asked : List Seat
  -- the length of all messages asked, in bytes; of these the client handed over so many, and so many
  -- reached the server
  pub asked_bytes : ℕ
  pub handed : ℕ
  pub arrived : ℕ
  -- of the first seats, in order
  pub turns : List (Turn R)
  pub answered : List (Sent R)
  -- so many of these the client has read
  pub read : ℕ
  pub client_left : Bool
  pub server_left : Bool

-- where an attempt stands
pub record Place : Type 0 where
  pub connection : ℕ
  pub seat : ℕ

-- how an invocation is finished
pub data Outcome (R : Type 0) : Type 0 where
  Replied : R → Outcome R
  -- it asks for no reply, and its message was handed over whole
  Handed : Outcome R
  Failed : Outcome R

-- a call, whether it is idempotent, whether it asks for a reply, its attempts (each a place, or none where it did not
-- connect), how it is finished
pub record Invocation (C R : Type 0) : Type 0 where
  pub call : C
  pub idempotent : Bool
  -- it asks for a reply
  pub twoway : Bool
  -- None is an attempt that did not connect
  pub attempts : List (Option Place)
  pub result : Option (Outcome R)

-- one entry of the log, with its reply
pub record Dispatch (R : Type 0) : Type 0 where
  pub connection : ℕ
  pub seat : ℕ
  pub reply : R

-- invocations and connections by number, the log of dispatches, the objects
pub record World (C R O : Type 0) : Type 0 where
  -- by number; None is not started
  pub invocations : ℕ → Option (Invocation C R)
  -- by number; one that nobody used yet is `fresh`
  pub connections : ℕ → Connection R
  pub dispatches : List (Dispatch R)
  pub objects : O

-- the same, but for `item` at `place`
abbrev pub put_at : {A : Type 0} → (ℕ → A) → ℕ → A → ℕ → A
put_at items place item n = if n == place then item else items n

-- a connection that nobody used yet
abbrev pub fresh : {R : Type 0} → Connection R
fresh = record {
  asked = [];
  asked_bytes = 0;
  handed = 0;
  arrived = 0;
  turns = [];
  answered = [];
  read = 0;
  client_left = false;
  server_left = false;
}

-- the world in which nothing has happened
abbrev pub opening : {C R O : Type 0} → O → World C R O
opening objects = record {
  invocations = λ _. None;
  connections = λ _. fresh;
  dispatches = [];
  objects = objects;
}
