-- WHAT A GATEWAY, OR `call`, AND THE SERVERS BEHIND IT SAY, joined. (Ice manual, "At-Most-Once Semantics".)
use Rattle.std.specs.Prelude.{ℕ, ℤ, ◌≡◌, List, [], ◌∷◌, ◌++◌, length, map, Some, Result, Ok, Err}
use Rattle.std.proofs.Common.{inl, inr}
use Rattle.ice_encoding.specs.Parts.{Each}
use Rattle.ice_messages.specs.declared.message.Answer.TheVariants.{Done}
use Rattle.ice_messages.specs.declared.message.Call.{Call}
use Rattle.ice_messages.specs.declared.message.Message.{Message}
use Rattle.ice_messages.specs.declared.message.Message.TheVariants.{Request, Reply}
use Rattle.ice_messages.specs.declared.fault.WriteFault.{WriteFault}
use Rattle.ice_messages.specs.declared.fault.WriteFault.TheVariants.{TooLong, Memory}
use Rattle.ice_client.specs.ClientDid.{Tried}
use Rattle.locator.specs.declared.through.Through.{Through}
use Rattle.locator.specs.declared.through.Through.TheVariants.{Invoked, NotLocated, LocatorFailed}
use Rattle.locator.specs.Caches.{Kept}
use Rattle.locator.specs.Rounds.{Round}
use Rattle.locator.specs.Steps.{Target}
use Rattle.locator.specs.Through.{GoesThrough, Starves, tried_of as tries_of}
use Rattle.ice_gateway.specs.declared.renewing.Renewed.TheVariants.{Written}
use Rattle.ice_gateway.specs.Anew.{body_anew}
use Rattle.ice_gateway.specs.Gate.{Gate, Operation, operation_of}
use Rattle.ice_gateway.specs.Forwarded.{forwarded}
use Rattle.ice_gateway.specs.Handled.{Handled, Invocation, WasHandled, WasStarved}
use Rattle.once_law.specs.Ends.{Delivery, HasOtherEnd, IsSent, tried_of}
use Rattle.once_law.specs.Laws.{HasTurn, HasSingleTurns}

-- a message that a gateway handled and forwarded: the attempts at it, with the sessions of servers at their other ends
pub record IsThrough (gate : Gate) (h : Handled) (d : Delivery) : Type 0 where
  pub handled : WasHandled gate h
  pub invocation : Invocation
  pub invoked : h.invocation ≡ Some invocation
  pub message_is : d.message ≡ invocation.message
  pub retries_are : d.retries ≡ gate.retries
  pub attempts_are : map tried_of d.attempts ≡ invocation.tried
  pub outcome_is : d.outcome ≡ Some invocation.outcome
  pub ends : Each HasOtherEnd d.attempts

-- a message that was due, and that a gateway did not handle since memory ran out: the attempts at it, likewise
pub record IsLeftThrough (gate : Gate) (m : Message) (d : Delivery) : Type 0 where
  pub message_is : forwarded gate m ≡ Some d.message
  pub retries_are : d.retries ≡ gate.retries
  pub starved : WasStarved gate d.message (map tried_of d.attempts ∷ [])
  pub ends : Each HasOtherEnd d.attempts

-- over all attempts at what was forwarded a call that is not idempotent has a turn at most once
abbrev pub GatedTurnsAreSingle : Type 0
GatedTurnsAreSingle = (gate : Gate) (h : Handled) (d : Delivery) → IsThrough gate h d → HasSingleTurns d

-- also where the gateway ran out of memory
abbrev pub StarvedGatedTurnsAreSingle : Type 0
StarvedGatedTurnsAreSingle = (gate : Gate) (m : Message) (d : Delivery) → IsLeftThrough gate m d → HasSingleTurns d

-- a success that the caller is told is that of a turn, with its results written anew
abbrev pub GatedSuccessesHaveTurns : Type 0
GatedSuccessesHaveTurns =
    (gate : Gate) (h : Handled) (d : Delivery) → IsThrough gate h d → (id : ℤ) (c : Call) (op : Operation) (body : List ℕ)
    → h.message ≡ Request id c → operation_of gate c.operation ≡ Some op → h.replies ≡ Reply id (Done body) ∷ []
    → (n : ℕ) × (came : List ℕ) × HasTurn d n 0 (Done came) × (body_anew op.tables op.declared.results came ≡ Written body)

-- ---- `call`

-- the attempt that memory cut off, if it was one
abbrev pub cut_by : (t : Target) (number : ℕ) (old : Kept) (rest : List Round) (new : Kept) → Starves t number old rest new → List Tried
cut_by t number old rest new (inl resolved) = []
cut_by t number old rest new (inr (asked, place, cached, cut, tail, resolved)) = cut ∷ []

-- the attempts at a message that went wherever its proxy leads
abbrev pub tries : (m : Message) (t : Target) (old : Kept) (rounds : List Round) (new : Kept) (came : Result Through WriteFault) → GoesThrough m t old rounds new came → List Tried
tries m t old rounds new (Ok (Invoked r)) went = tries_of went.0.0
tries m t old rounds new (Ok NotLocated) went = tries_of went.0.0
tries m t old rounds new (Ok (LocatorFailed r)) went = tries_of went.0.0
tries m t old rounds new (Err (TooLong n)) went = []
tries m t old rounds new (Err Memory) (inl nothing, few) = []
tries m t old rounds new (Err Memory) (inr (legs, delivered), few) = tries_of legs ++ cut_by t (length legs) delivered.mid delivered.rest new delivered.end

-- a message that `call` sent to wherever its proxy leads, whatever it came to: the attempts at it, with the sessions of servers
-- at their other ends
pub record IsCalled (m : Message) (t : Target) (old : Kept) (rounds : List Round) (new : Kept) (came : Result Through WriteFault) (d : Delivery) : Type 0 where
  pub sent : IsSent m
  pub went : GoesThrough m t old rounds new came
  pub message_is : d.message ≡ m
  pub retries_are : d.retries ≡ t.retries
  pub attempts_are : map tried_of d.attempts ≡ tries m t old rounds new came went
  pub ends : Each HasOtherEnd d.attempts

-- over all of them a call that is not idempotent has a turn at most once, wherever memory ran out
abbrev pub CalledTurnsAreSingle : Type 0
CalledTurnsAreSingle =
    (m : Message) (t : Target) (old : Kept) (rounds : List Round) (new : Kept) (came : Result Through WriteFault) (d : Delivery)
    → IsCalled m t old rounds new came d → HasSingleTurns d
