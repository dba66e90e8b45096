-- The table of a client, row by row. (Ice manual, "The Ice Protocol", "Protocol State Diagrams".)
use Rattle.std.specs.Prelude.{ℕ, ◌+◌, Bool, Option, None, Some, if◌then◌else◌, nat_lt, ◌==◌}
use Rattle.retry_core.specs.declared.attempt.Attempt.TheVariants as ends
use Rattle.retry_core.specs.declared.client_table.ClientEvent.{ClientEvent}
use Rattle.retry_core.specs.declared.client_table.ClientEvent.TheVariants.{Connected, ConnectFailed, Validated, Taken, Lost, CloseRead, Refused2, ReplyRead, Broken}
use Rattle.retry_core.specs.declared.client_table.ClientAction.TheVariants as does
use Rattle.retry_core.specs.declared.client_table.ClientState.{ClientState}
use Rattle.retry_core.specs.declared.client_table.ClientState.TheVariants.{Connecting, AwaitingValidate, Sending, AwaitingReply}
use Rattle.retry_core.specs.declared.client_table.ClientNext.{ClientNext}
use Rattle.retry_core.specs.declared.client_table.ClientNext.TheVariants.{Goes, Ends}

-- the message was taken whole: its reply is read, where it asks for one
abbrev pub whole_row : Bool → ClientNext
whole_row replies = if replies then Goes AwaitingReply does.AwaitReply else Ends ends.Sent

-- the connection has taken so many bytes in all of a message of this length
abbrev pub taken_row : Bool → ℕ → ℕ → Option ClientNext
taken_row replies length taken =
    if nat_lt taken length then Some (Goes (Sending taken) does.Send)
    else (if taken == length then Some (whole_row replies) else None)

-- for a message of this length, which asks for a reply or not: the next state and what is done in it, or how
-- the attempt ends. None: the event cannot come
abbrev pub client_row : Bool → ℕ → ClientState → ClientEvent → Option ClientNext
client_row replies length Connecting Connected = Some (Goes AwaitingValidate does.AwaitValidate)
client_row replies length Connecting ConnectFailed = Some (Ends ends.NotConnected)
client_row replies length AwaitingValidate Validated = Some (Goes (Sending 0) does.Send)
client_row replies length AwaitingValidate Lost = Some (Ends ends.NotWhole)
client_row replies length AwaitingValidate CloseRead = Some (Ends ends.Closed)
client_row replies length AwaitingValidate Broken = Some (Ends ends.Broke)
client_row replies length (Sending taken) Validated = Some (Goes (Sending taken) does.Send)
client_row replies length (Sending taken) (Taken n) = taken_row replies length (taken + n)
client_row replies length (Sending taken) Lost = Some (Ends ends.NotWhole)
client_row replies length (Sending taken) CloseRead = Some (Ends ends.Closed)
client_row replies length (Sending taken) Broken = Some (Ends ends.Broke)
client_row replies length AwaitingReply Validated = Some (Goes AwaitingReply does.AwaitReply)
client_row replies length AwaitingReply Lost = Some (Ends ends.Lost)
client_row replies length AwaitingReply CloseRead = Some (Ends ends.Closed)
client_row replies length AwaitingReply (Refused2 cached) = Some (Ends (if cached then ends.Stale else ends.Replied))
client_row replies length AwaitingReply ReplyRead = Some (Ends ends.Replied)
client_row replies length AwaitingReply Broken = Some (Ends ends.Broke)
client_row replies length state event = None
