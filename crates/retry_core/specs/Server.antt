-- The table of a server, row by row. (Ice manual, "The Ice Protocol", "Protocol State Diagrams".)
use Rattle.std.specs.Prelude.{ℕ, zero, suc, Bool, Option, None, Some, IsSome, if◌then◌else◌}
use Rattle.retry_core.specs.declared.server.ServerEvent.{ServerEvent}
use Rattle.retry_core.specs.declared.server.ServerEvent.TheVariants.{Opened, Request, Answered, Heartbeat, CloseRead, Broken, Lost, EnoughRead}
use Rattle.retry_core.specs.declared.server.ServerAction.{ServerAction}
use Rattle.retry_core.specs.declared.server.ServerAction.TheVariants.{SendValidate, Dispatch, SendReply, Read, SendClose, Leave}
use Rattle.retry_core.specs.declared.server.ServerState.{ServerState}
use Rattle.retry_core.specs.declared.server.ServerState.TheVariants.{New, Reading, Dispatched, Left}

-- a message with so many calls was read, which asks for a reply or not: the first call is dispatched
abbrev pub request_row : ℕ → Bool → ServerAction × ServerState
request_row zero reply = (Read, Reading)
request_row (suc left) reply = (Dispatch, Dispatched left reply)

-- a call has its answer, and so many others of its message are left: the next is dispatched, or the reply is
-- sent where one is asked
abbrev pub answered_row : ℕ → Bool → ServerAction × ServerState
answered_row zero reply = (if reply then SendReply else Read, Reading)
answered_row (suc left) reply = (Dispatch, Dispatched left reply)

-- what is done, and the state after it. None: the event cannot come
abbrev pub server_row : ServerState → ServerEvent → Option (ServerAction × ServerState)
server_row New Opened = Some (SendValidate, Reading)
server_row Reading (Request calls reply) = Some (request_row calls reply)
server_row (Dispatched left reply) Answered = Some (answered_row left reply)
server_row Reading Heartbeat = Some (Read, Reading)
server_row Reading EnoughRead = Some (SendClose, Left)
server_row Reading CloseRead = Some (Leave, Left)
server_row Reading Broken = Some (Leave, Left)
server_row New Lost = Some (Leave, Left)
server_row Reading Lost = Some (Leave, Left)
server_row (Dispatched left reply) Lost = Some (Leave, Left)
server_row state event = None

-- the event can come
abbrev pub MayComeTo : ServerState → ServerEvent → Type 0
MayComeTo state event = IsSome (server_row state event)
