-- What a server makes of every list of events. (Ice manual, "Closing Connections".)
use Rattle.std.specs.Prelude.{◌≡◌, ℕ, ◌+◌, zero, suc, Bool, true, false, List, [], ◌∷◌, Some, slice_get, length, count_by, sum_by}
use Rattle.retry_core.specs.declared.server.ServerEvent.{ServerEvent}
use Rattle.retry_core.specs.declared.server.ServerEvent.TheVariants.{Opened, Request, Answered, Heartbeat, CloseRead, Broken, Lost, EnoughRead}
use Rattle.retry_core.specs.declared.server.ServerAction.{ServerAction}
use Rattle.retry_core.specs.declared.server.ServerAction.TheVariants.{SendValidate, Dispatch, SendReply, Read, SendClose, Leave}
use Rattle.retry_core.specs.declared.server.ServerState.{ServerState}
use Rattle.retry_core.specs.declared.server.ServerState.TheVariants.{New}
use Rattle.retry_core.specs.Server.{server_row}

-- from this state the events lead to these actions, one for each
abbrev pub ServerRun : ServerState → List ServerEvent → List ServerAction → Type 0
ServerRun state [] actions = actions ≡ []
ServerRun state (event ∷ events) actions =
    (action : ServerAction) × (next_ : ServerState) × (rest : List ServerAction)
    × (server_row state event ≡ Some (action, next_)) × ServerRun next_ events rest × (actions ≡ action ∷ rest)

-- the action dispatches a request
abbrev pub is_dispatch : ServerAction → Bool
is_dispatch Dispatch = true
is_dispatch SendValidate = false
is_dispatch SendReply = false
is_dispatch Read = false
is_dispatch SendClose = false
is_dispatch Leave = false

-- the action sends a reply
abbrev pub is_reply : ServerAction → Bool
is_reply SendReply = true
is_reply SendValidate = false
is_reply Dispatch = false
is_reply Read = false
is_reply SendClose = false
is_reply Leave = false

-- how many calls were read at the event
abbrev pub calls_read : ServerEvent → ℕ
calls_read (Request calls reply) = calls
calls_read Opened = 0
calls_read Answered = 0
calls_read Heartbeat = 0
calls_read CloseRead = 0
calls_read Broken = 0
calls_read Lost = 0
calls_read EnoughRead = 0

-- a message of so many calls has a reply due: it asks for one, and has a call
abbrev pub is_due : ℕ → Bool → Bool
is_due zero reply = false
is_due (suc left) reply = reply

-- a message was read that has a reply due
abbrev pub asks_reply : ServerEvent → Bool
asks_reply (Request calls reply) = is_due calls reply
asks_reply Opened = false
asks_reply Answered = false
asks_reply Heartbeat = false
asks_reply CloseRead = false
asks_reply Broken = false
asks_reply Lost = false
asks_reply EnoughRead = false

-- a close is sent only when each message that has a reply due has it sent and each call that was read was
-- dispatched, and nothing follows it
abbrev pub ClosesLast : List ServerEvent → List ServerAction → Type 0
ClosesLast events actions =
    (n : ℕ) → slice_get actions n ≡ Some SendClose
    → (n + 1 ≡ length actions)
    × (count_by is_reply actions ≡ count_by asks_reply events)
    × (count_by is_dispatch actions ≡ sum_by calls_read events)

-- so it is whatever came
abbrev pub ServersCloseLast : Type 0
ServersCloseLast =
    (events : List ServerEvent) (actions : List ServerAction) → ServerRun New events actions → ClosesLast events actions
