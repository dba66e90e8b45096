-- The law that joins both ends. (Ice manual, "At-Most-Once Semantics".)
use Rattle.std.specs.Prelude.{ℕ, pos, ◌≡◌, Bool, true, false, List, [], ◌∷◌, map, Some, slice_get, take}
use Rattle.std.specs.List.{flat_map}
use Rattle.ice_encoding.specs.Parts.{Each}
use Rattle.ice_messages.specs.declared.message.Call.{Call}
use Rattle.ice_messages.specs.declared.message.Answer.{Answer}
use Rattle.ice_messages.specs.declared.message.Message.{Message}
use Rattle.ice_messages.specs.declared.message.Message.TheVariants.{Request, Batch, Reply}
use Rattle.ice_messages.specs.Messages.{message_bytes, SpellsMessage}
use Rattle.retry_core.specs.declared.attempt.Attempt.{Attempt}
use Rattle.retry_core.specs.declared.attempt.Attempt.TheVariants.{NotWhole, Closed, Replied, Sent}
use Rattle.ice_client.specs.declared.outcome.Outcome.{Outcome}
use Rattle.ice_client.specs.declared.outcome.Outcome.TheVariants as outcomes
use Rattle.ice_messages.specs.Calls.{status_of}
use Rattle.object_adapter.specs.Laws.{IsDispatched}
use Rattle.dispatch_pool.specs.Handled.{Handled}
use Rattle.call_world.specs.Service.{free_rules}
use Rattle.call_world.specs.World.{Dispatch, Dispatched}
use Rattle.call_world.specs.Step.{IsReached}
use Rattle.call_world.specs.Laws.{AtMostOnce, OwnReplies}
use Rattle.call_world.specs.Reached.{IsLogged}
use Rattle.once_law.specs.Placed.{connections, after_all}
use Rattle.ice_client.specs.ClientDid.{ClientStarved}
use Rattle.once_law.specs.Ends.{Session, Attempted, attempt_of, is_served, Delivery, talks, IsDelivery, IsStarved, tried_of}
use Rattle.once_law.specs.Matched.{Client, Matching, AreMatched, joined}
use Rattle.once_law.specs.Shown.{CallWorld, calls_of, turn_at, Shows}

-- the session gave the call in this seat a turn, with this answer
abbrev pub GaveTurn : Session → ℕ → Answer → Type 0
GaveTurn session seat answer = (call : Handled) × (slice_get session.handled seat ≡ Some call) × (turn_at call ≡ Dispatched answer)

-- the session at the other end of attempt number n gave the call in this seat of the message a turn, with this answer
pub record HasTurn (d : Delivery) (n seat : ℕ) (answer : Answer) : Type 0 where
  pub attempt : Attempted
  pub at : slice_get d.attempts n ≡ Some attempt
  pub session : Session
  pub served : attempt.session ≡ Some session
  pub gave : GaveTurn session seat answer

-- the first connection of the attempts at message number `number`: the one behind those of all attempts before
abbrev pub first_connection : List Delivery → ℕ → ℕ
first_connection deliveries number = after_all 0 (flat_map talks (take number deliveries))

-- attempt number n at message number `number`, which is d, has this connection
abbrev pub IsConnection : List Delivery → ℕ → Delivery → ℕ → ℕ → Type 0
IsConnection deliveries number d n connection = slice_get (connections (first_connection deliveries number) (talks d)) n ≡ Some (Some connection)

-- each dispatch of the world is a turn of the session at the other end of its connection, of the call in its seat, and
-- recorded the answer of that turn
abbrev pub DispatchesAreTurns : CallWorld → List Delivery → Type 0
DispatchesAreTurns w deliveries =
    (index : ℕ) (x : Dispatch Answer) → slice_get w.dispatches index ≡ Some x
    → (number n : ℕ) × (d : Delivery) × (slice_get deliveries number ≡ Some d) × IsConnection deliveries number d n x.connection × HasTurn d n x.seat x.reply

-- and each turn of a session is a dispatch
abbrev pub TurnsAreDispatches : CallWorld → List Delivery → Type 0
TurnsAreDispatches w deliveries =
    (number n : ℕ) (d : Delivery) (seat : ℕ) (answer : Answer) → slice_get deliveries number ≡ Some d → HasTurn d n seat answer
    → (index : ℕ) × (x : Dispatch Answer) × (slice_get w.dispatches index ≡ Some x) × (x.seat ≡ seat) × (x.reply ≡ answer) × IsConnection deliveries number d n x.connection

-- a world of calls, reached with objects that may answer anything, that shows these ends, with what is so of it
pub record IsWorldOf (w : CallWorld) (deliveries : List Delivery) : Type 0 where
  pub reached : IsReached (free_rules status_of) tt w
  pub shows : Shows w deliveries
  -- each invocation that is not idempotent was dispatched at most once
  pub at_most_once : AtMostOnce w
  -- each success carries the reply that a dispatch of its own invocation recorded
  pub own_replies : OwnReplies status_of w
  -- the dispatches are the turns of the sessions' objects, with their answers
  pub logged : IsLogged w
  pub dispatches : DispatchesAreTurns w deliveries
  pub turns : TurnsAreDispatches w deliveries

-- session number s gave its call number `seat` a turn, with this answer
abbrev pub HasEntry : List Session → ℕ → ℕ → Answer → Type 0
HasEntry sessions s seat answer = (session : Session) × (slice_get sessions s ≡ Some session) × GaveTurn session seat answer

-- session number s is at the other end of this connection
pub record IsSessionOf (clients : List Client) (sessions : List Session) (other : Matching) (s connection : ℕ) : Type 0 where
  pub number : ℕ
  pub n : ℕ
  pub delivery : Delivery
  pub at : slice_get (joined clients sessions other) number ≡ Some delivery
  pub met : other number n ≡ Some s
  pub numbered : IsConnection (joined clients sessions other) number delivery n connection

-- each dispatch records the answer of an entry of the session at the other end of its connection, and each entry of a session
-- is dispatched there
pub record SessionsDispatched (w : CallWorld) (clients : List Client) (sessions : List Session) (other : Matching) : Type 0 where
  pub entries :
      (index : ℕ) (x : Dispatch Answer) → slice_get w.dispatches index ≡ Some x
      → (s : ℕ) × IsSessionOf clients sessions other s x.connection × HasEntry sessions s x.seat x.reply
  pub dispatched :
      (s seat : ℕ) (answer : Answer) → HasEntry sessions s seat answer
      → (index : ℕ) × (x : Dispatch Answer) × (slice_get w.dispatches index ≡ Some x) × (x.seat ≡ seat) × (x.reply ≡ answer) × IsSessionOf clients sessions other s x.connection

-- Whatever clients and servers say of messages, where both ends of each connection fit together: it is what one world of
-- calls shows.
abbrev pub EndsAreOneWorld : Type 0
EndsAreOneWorld = (deliveries : List Delivery) → Each IsDelivery deliveries → (w : CallWorld) × IsWorldOf w deliveries

-- The same of what clients say and what servers say apart, where each session is at the other end of one attempt.
abbrev pub MatchedEndsAreOneWorld : Type 0
MatchedEndsAreOneWorld =
    (clients : List Client) (sessions : List Session) (other : Matching) → AreMatched clients sessions other
    → (w : CallWorld) × IsWorldOf w (joined clients sessions other) × SessionsDispatched w clients sessions other

-- ---- the same in the words of the ends alone

-- over all attempts at a message a call in it that is not idempotent has a turn at most once
abbrev pub HasSingleTurns : Delivery → Type 0
HasSingleTurns d =
    (seat : ℕ) (call : Call) → slice_get (calls_of d.message) seat ≡ Some (call, false)
    → (m n : ℕ) (a b : Answer) → HasTurn d m seat a → HasTurn d n seat b → m ≡ n

abbrev pub TurnsAreSingle : Type 0
TurnsAreSingle = (d : Delivery) → IsDelivery d → HasSingleTurns d

-- also where the client ran out of memory
abbrev pub StarvedTurnsAreSingle : Type 0
StarvedTurnsAreSingle = (d : Delivery) → IsStarved d → HasSingleTurns d

-- a success is the answer of a turn that the call had
abbrev pub SuccessesHaveTurns : Type 0
SuccessesHaveTurns =
    (d : Delivery) → IsDelivery d → (answer : Answer) → d.outcome ≡ Some (outcomes.Replied answer) → status_of answer ≡ 0
    → (n : ℕ) × HasTurn d n 0 answer

-- ---- the premise can be met

-- a message of a call, whose attempts ended so; at the other ends of some of them were sessions
pub record IsExample (d : Delivery) (message : Message) (attempts : List Attempt) (served : List Bool) (outcome : Outcome) : Type 0 where
  pub message_is : d.message ≡ message
  pub attempts_are : map attempt_of d.attempts ≡ attempts
  pub served_are : map is_served d.attempts ≡ served
  pub outcome_is : d.outcome ≡ Some outcome
  -- both ends fit together
  pub fits : IsDelivery d

-- whatever the call and its answer, where they can be written: an attempt whose link was lost before the message was
-- taken, one whose session closed, and one with a session that gave the call its turn, over which the client may as well
-- have run out of memory; and a batch of two such calls
abbrev pub EndsCanFit : Type 0
EndsCanFit =
    (call : Call) (answer : Answer)
    → SpellsMessage (message_bytes (Request (pos 1) call)) (Request (pos 1) call)
    → SpellsMessage (message_bytes (Batch (call ∷ call ∷ []))) (Batch (call ∷ call ∷ []))
    → SpellsMessage (message_bytes (Reply (pos 1) answer)) (Reply (pos 1) answer) → IsDispatched answer
    → (one two : Delivery)
    × IsExample one (Request (pos 1) call) (NotWhole ∷ Closed ∷ Replied ∷ []) (false ∷ true ∷ true ∷ []) (outcomes.Replied answer)
    × IsExample two (Batch (call ∷ call ∷ [])) (Sent ∷ []) (true ∷ []) outcomes.Sent
    × IsStarved one × ClientStarved one.message one.retries (map tried_of one.attempts)
