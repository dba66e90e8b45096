-- What can happen, and what it leads to. A world is reached where a list of events leads to it from the opening.
-- (Ice manual, "Automatic Retries", "Oneway Invocations" and "Batched Invocations".)
use Rattle.std.specs.Prelude.{◌≡◌, ℕ, ◌+◌, ◌<◌, ◌≤◌, ◌⊎◌, List, [], ◌∷◌, ◌++◌, Bool, true, false, Option, None, Some, slice_get, length}
use Rattle.call_world.specs.Service.{Rules}
use Rattle.call_world.specs.World.{World, Connection, Seat, Answer, Dispatched, Place, Invocation, Outcome, Replied, Handed, Failed, put_at, opening}
use Rattle.call_world.specs.Dead.{HasRead, IsDead}
use Rattle.call_world.specs.Connection.{ConnectionEvent, ConnectionStep, IsReady, turned, refused, begun, seated}

-- what can happen in a world
pub data Event (C R O : Type 0) : Type 0 where
  -- invocation, its call, whether it is idempotent, whether it asks for a reply
  Start : ℕ → C → Bool → Bool → Event C R O
  -- an attempt of these invocations, in one message; it does not connect
  Misses : List ℕ → Event C R O
  -- an attempt of these invocations, in one message of this length on this connection
  Asks : List ℕ → ℕ → ℕ → Event C R O
  -- on this connection, with this reply and these next objects
  Dispatches : ℕ → R → O → Event C R O
  Refuses : ℕ → R → Event C R O
  On : ℕ → ConnectionEvent R → Event C R O
  Finishes : ℕ → Outcome R → Event C R O

-- an invocation may be tried, for the first time or again
pub record MayTry {C R O : Type 0} (status : R → ℕ) (w : World C R O) (v : Invocation C R) : Type 0 where
  pub unfinished : v.result ≡ None
  -- all its attempts are dead, or it is idempotent and the client has left each of its connections
  pub free :
      ((n : ℕ) (p : Option Place) → slice_get v.attempts n ≡ Some p → IsDead status w p)
      ⊎ ((v.idempotent ≡ true)
      × ((n : ℕ) (p : Place) →
      slice_get v.attempts n ≡ Some (Some p) → (w.connections p.connection).client_left ≡ true))

abbrev pub tried : {C R : Type 0} → Invocation C R → Option Place → Invocation C R
tried v p = record v { attempts = v.attempts ++ p ∷ [] }

-- these may go in one message: they are different, and one that asks for a reply goes alone
abbrev pub IsMessage : {C R O : Type 0} → World C R O → List ℕ → Type 0
IsMessage {C} {R} w is =
    (0 < length is)
    × ((m n i : ℕ) → slice_get is m ≡ Some i → slice_get is n ≡ Some i → m ≡ n)
    × ((length is ≡ 1)
    ⊎ ((n i : ℕ) (v : Invocation C R) → slice_get is n ≡ Some i → w.invocations i ≡ Some v → v.twoway ≡ false))

-- one call of a message whose attempt does not connect
abbrev pub Miss : {C R O : Type 0} → (R → ℕ) → World C R O → ℕ → World C R O → Type 0
Miss {C} {R} status w i w' =
    (v : Invocation C R) × (w.invocations i ≡ Some v) × MayTry status w v
    × (w' ≡ record w { invocations = put_at w.invocations i (Some (tried v None)) })

-- one call of the message that was begun last on connection c
abbrev pub Ask : {C R O : Type 0} → (R → ℕ) → ℕ → World C R O → ℕ → World C R O → Type 0
Ask {C} {R} status c w i w' =
    (v : Invocation C R) × (w.invocations i ≡ Some v) × MayTry status w v
    × ((w.connections c).client_left ≡ false)
    × (w' ≡ record w {
      invocations = put_at w.invocations i (Some (tried v (Some (record {
        connection = c;
        seat = length (w.connections c).asked;
      }))));
      connections = put_at w.connections c (seated (w.connections c) i v.twoway);
    })

-- each in order, one after the other
abbrev pub Each : {C R O : Type 0} → (World C R O → ℕ → World C R O → Type 0) → World C R O → List ℕ → World C R O → Type 0
Each one w [] w' = w ≡ w'
Each {C} {R} {O} one w (i ∷ is) w' = (mid : World C R O) × one w i mid × Each one mid is w'

-- the answer r was read for the last attempt of v
abbrev pub IsToldLast : {C R O : Type 0} → World C R O → Invocation C R → R → Type 0
IsToldLast w v r =
    (n : ℕ) × (p : Place) × (slice_get v.attempts n ≡ Some (Some p)) × (length v.attempts ≡ n + 1)
    × HasRead (w.connections p.connection) (Answer p.seat r)

-- the message of the last attempt of v was handed over whole
abbrev pub IsHandedLast : {C R O : Type 0} → World C R O → Invocation C R → Type 0
IsHandedLast w v =
    (n : ℕ) × (p : Place) × (s : Seat) × (slice_get v.attempts n ≡ Some (Some p)) × (length v.attempts ≡ n + 1)
    × (slice_get (w.connections p.connection).asked p.seat ≡ Some s) × (s.ends ≤ (w.connections p.connection).handed)

-- the invocation may be finished so; a failure is always a way
abbrev pub MayFinish : {C R O : Type 0} → World C R O → Invocation C R → Outcome R → Type 0
MayFinish w v (Replied r) = IsToldLast w v r
MayFinish w v Handed = (v.twoway ≡ false) × IsHandedLast w v
MayFinish w v Failed = Unit {0}

-- the event leads the world w to w'
abbrev pub Step : {C R O : Type 0} → Rules C R O → World C R O → Event C R O → World C R O → Type 0
Step rules w (Start i call idempotent twoway) w' =
    (w.invocations i ≡ None)
    × (w' ≡ record w {
      invocations = put_at w.invocations i (Some (record {
        call = call;
        idempotent = idempotent;
        twoway = twoway;
        attempts = [];
        result = None;
      }));
    })
Step rules w (Misses is) w' = IsMessage w is × Each (Miss rules.status) w is w'
Step rules w (Asks is c size) w' =
    IsMessage w is × ((w.connections c).client_left ≡ false)
    × Each (Ask rules.status c) (record w { connections = put_at w.connections c (begun (w.connections c) size) }) is w'
Step {C} {R} rules w (Dispatches c r next) w' =
    (seat : Seat) × (v : Invocation C R) × IsReady (w.connections c) seat
    × (w.invocations seat.invocation ≡ Some v) × rules.may_dispatch w.objects v.call
    × rules.dispatches w.objects v.call r next
    × (w' ≡ record w {
      connections = put_at w.connections c (turned (w.connections c) (Dispatched r));
      dispatches = w.dispatches ++ record {
        connection = c;
        seat = length (w.connections c).turns;
        reply = r;
      } ∷ [];
      objects = next;
    })
Step {C} {R} rules w (Refuses c r) w' =
    (seat : Seat) × (v : Invocation C R) × IsReady (w.connections c) seat
    × (w.invocations seat.invocation ≡ Some v) × rules.may_refuse w.objects v.call
    × rules.refuses w.objects v.call r
    × (w' ≡ record w {
      connections = put_at w.connections c (refused (w.connections c) seat.twoway r);
    })
Step {C} {R} rules w (On c event) w' =
    (k : Connection R) × ConnectionStep (w.connections c) event k
    × (w' ≡ record w { connections = put_at w.connections c k })
Step {C} {R} rules w (Finishes i outcome) w' =
    (v : Invocation C R) × (w.invocations i ≡ Some v) × (v.result ≡ None) × MayFinish w v outcome
    × (w' ≡ record w { invocations = put_at w.invocations i (Some (record v { result = Some outcome })) })

-- the events lead, one after the other, from the world w to w'
abbrev pub Run : {C R O : Type 0} → Rules C R O → World C R O → List (Event C R O) → World C R O → Type 0
Run rules w [] w' = w ≡ w'
Run {C} {R} {O} rules w (e ∷ es) w' = (mid : World C R O) × Step rules w e mid × Run rules mid es w'

-- some list of events leads to w from the opening with these objects
abbrev pub IsReached : {C R O : Type 0} → Rules C R O → O → World C R O → Type 0
IsReached {C} {R} {O} rules objects w = (events : List (Event C R O)) × Run rules (opening objects) events w
