-- How a world of calls shows what both ends say: each call of a message is an invocation of its own, at its place in that
-- message, and each attempt that connected is a connection of its own; both are numbered in order, from 0 on.
use Rattle.std.specs.Prelude.{ℕ, ℤ, pos, negsuc, zero, suc, ◌≡◌, ◌+◌, ◌≤◌, nat_lt, Bool, true, false, List, [], ◌∷◌, ◌++◌, length, map, Option, None, Some}
use Rattle.ice_ports.specs.declared.talk.Talk.{Talk}
use Rattle.ice_messages.specs.declared.message.Call.{Call}
use Rattle.ice_messages.specs.declared.message.Answer.{Answer}
use Rattle.ice_messages.specs.declared.message.Message.{Message}
use Rattle.ice_messages.specs.declared.message.Message.TheVariants.{Request, Batch, Reply}
use Rattle.ice_messages.specs.declared.message.Message.TheVariants as messages
use Rattle.ice_messages.specs.Messages.{SpellsMessage}
use Rattle.ice_messages.specs.Streams.{Stream}
use Rattle.ice_client.specs.declared.outcome.Outcome.TheVariants as outcomes
use Rattle.ice_client.specs.declared.outcome.Outcome as clients
use Rattle.ice_client.specs.Sending.{asks_reply}
use Rattle.talking.specs.declared.end.End.{End}
use Rattle.talking.specs.declared.end.End.TheVariants.{PeerEnded, PeerClosed, PeerBroke, LinkFailed, Enough}
use Rattle.dispatch_pool.specs.Handled.{Handled, had_turn, refused, answer_of}
use Rattle.dispatch_pool.specs.Handled as servers
use Rattle.call_world.specs.World.{World, Connection, Turn, Dispatched, Refused, Sent, Validate, Answer as AnswerSent, Outcome, Replied, Handed, Failed, fresh}
use Rattle.once_law.specs.Placed.{Stand, after, connections, after_all, invocations, seats, closing}
use Rattle.once_law.specs.Ends.{Session, Attempted, Delivery, IsPrefix, talks}

-- with objects that may answer anything
abbrev pub CallWorld : Type 0
CallWorld = World Call Answer (Unit {0})

-- ---- calls and outcomes

-- nonmutating or idempotent
abbrev pub is_repeatable : Call → Bool
is_repeatable call = nat_lt 0 call.mode

abbrev pub with_mode : Call → Call × Bool
with_mode call = (call, is_repeatable call)

-- the calls of a message, each with whether it may be dispatched again
abbrev pub calls_of : Message → List (Call × Bool)
calls_of (Request id call) = with_mode call ∷ []
calls_of (Batch calls) = map with_mode calls
calls_of (Reply id answer) = []
calls_of messages.Validate = []
calls_of messages.Close = []

-- a success or a refusal is told by its answer; what was sent whole is told so; all else failed
abbrev pub result_of : Option clients.Outcome → Outcome Answer
result_of None = Failed
result_of (Some (outcomes.Replied answer)) = Replied answer
result_of (Some outcomes.Sent) = Handed
result_of (Some outcomes.NetFailed) = Failed
result_of (Some outcomes.Ended) = Failed
result_of (Some outcomes.Closed) = Failed
result_of (Some (outcomes.Broke fault)) = Failed
result_of (Some outcomes.NoEndpoint) = Failed

-- ---- one connection

-- a turn of an object is a dispatch, which records the answer of that turn
abbrev pub turn_of : servers.Outcome → Turn Answer
turn_of (had_turn place ticket answer) = Dispatched answer
turn_of (refused answer) = Refused answer

abbrev pub turn_at : Handled → Turn Answer
turn_at h = turn_of h.outcome

-- the answer to the call in this seat, where its id asks for one
abbrev pub answer_at : ℕ → ℤ → Answer → List (Sent Answer)
answer_at seat (pos zero) answer = []
answer_at seat (pos (suc n)) answer = AnswerSent seat answer ∷ []
answer_at seat (negsuc n) answer = AnswerSent seat answer ∷ []

abbrev pub answers_at : ℕ → List Handled → List (Sent Answer)
answers_at seat [] = []
answers_at seat (h ∷ hs) = answer_at seat h.asked.id (answer_of h.outcome) ++ answers_at (suc seat) hs

-- a close message was to be said before this end, or not; where the link failed it may have been
abbrev pub ClosesAt : Option End → Bool → Type 0
ClosesAt None closes = closes ≡ false
ClosesAt (Some PeerEnded) closes = closes ≡ false
ClosesAt (Some PeerClosed) closes = closes ≡ false
ClosesAt (Some (PeerBroke fault)) closes = closes ≡ false
ClosesAt (Some LinkFailed) closes = Unit {0}
ClosesAt (Some Enough) closes = closes ≡ true

-- the server's part of a connection is that of the session
abbrev pub ShowsSession : Connection Answer → Option Session → Type 0
ShowsSession k None = (k.arrived ≡ 0) × (k.turns ≡ []) × (k.answered ≡ [])
ShowsSession k (Some s) =
    (k.arrived ≡ length s.talk.given) × (k.turns ≡ map turn_at s.handled)
    × ((closes : Bool) × ClosesAt s.end closes × (k.answered ≡ Validate ∷ (answers_at 0 s.handled ++ closing closes)))

-- the connection carried the message with these bytes, whose first call is invocation i
pub record ShowsTalk (k : Connection Answer) (i : ℕ) (m : Message) (bytes : List ℕ) (t : Talk) (session : Option Session) : Type 0 where
  pub asked : k.asked ≡ seats i (asks_reply m) (length bytes) (calls_of m)
  pub asked_bytes : k.asked_bytes ≡ length bytes
  -- so many of its bytes were taken
  pub taken : IsPrefix t.taken bytes
  pub handed : k.handed ≡ length t.taken
  -- so many messages were read of the bytes that were given
  pub reads : List Message
  pub rest : List ℕ
  pub stream : Stream t.given reads rest
  pub read : k.read ≡ length reads
  pub left : k.client_left ≡ true
  pub server : ShowsSession k session

abbrev pub ShowsAttempt : CallWorld → ℕ → Message → List ℕ → ℕ → Option Talk → Option Session → Type 0
ShowsAttempt w i m bytes c None session = Unit {0}
ShowsAttempt w i m bytes c (Some t) session = ShowsTalk (w.connections c) i m bytes t session

-- the attempts that connected have these connections, from connection c on
abbrev pub ShowsAttempts : CallWorld → ℕ → Message → List ℕ → ℕ → List Attempted → Type 0
ShowsAttempts w i m bytes c [] = Unit {0}
ShowsAttempts w i m bytes c (a ∷ others) =
    ShowsAttempt w i m bytes c a.tried.talk a.session × ShowsAttempts w i m bytes (after c a.tried.talk) others

-- ---- one message

-- its calls are the invocations from i on, its attempts the connections from c on
pub record ShowsDelivery (w : CallWorld) (i c : ℕ) (d : Delivery) : Type 0 where
  pub bytes : List ℕ
  pub spelled : SpellsMessage bytes d.message
  pub calls : Stand w.invocations i (invocations (asks_reply d.message) (connections c (talks d)) (Some (result_of d.outcome)) 0 (calls_of d.message))
  pub attempts : ShowsAttempts w i d.message bytes c d.attempts

-- ---- all

-- these messages are numbered from here on, and behind them nothing was started and nothing connected
abbrev pub ShowsFrom : CallWorld → ℕ → ℕ → List Delivery → Type 0
ShowsFrom w i c [] = ((j : ℕ) → i ≤ j → w.invocations j ≡ None) × ((d : ℕ) → c ≤ d → w.connections d ≡ fresh)
ShowsFrom w i c (d ∷ ds) = ShowsDelivery w i c d × ShowsFrom w (i + length (calls_of d.message)) (after_all c (talks d)) ds

abbrev pub Shows : CallWorld → List Delivery → Type 0
Shows w ds = ShowsFrom w 0 0 ds
