-- One message as its client sees it, and what an event makes of it. (Ice manual, "Automatic Retries".)
use Rattle.std.specs.Prelude.{ℕ, ◌-◌, Bool, List, [], ◌∷◌, ◌++◌, Option, None, Some, if◌then◌else◌, nat_lt, ◌&&◌, IsSome}
use Rattle.retry_core.specs.declared.attempt.Attempt.{Attempt}
use Rattle.retry_core.specs.declared.client_table.ClientEvent.{ClientEvent}
use Rattle.retry_core.specs.declared.client_table.ClientAction.{ClientAction}
use Rattle.retry_core.specs.declared.client_table.ClientAction.TheVariants.{Connect, Finish}
use Rattle.retry_core.specs.declared.client_table.ClientState.{ClientState}
use Rattle.retry_core.specs.declared.client_table.ClientState.TheVariants.{Connecting, AwaitingValidate, Sending, AwaitingReply, Finished}
use Rattle.retry_core.specs.declared.client_table.ClientNext.{ClientNext}
use Rattle.retry_core.specs.declared.client_table.ClientNext.TheVariants.{Goes, Ends}
use Rattle.retry_core.specs.Retries.{may_follow}
use Rattle.retry_core.specs.ClientTable.{client_row}

-- what contracts see of a `Client`: idempotent or not, whether it asks for a reply, the message's length, the
-- retries left, the state, the attempts that have ended
pub record Invoking : Type 0 where
  pub idempotent : Bool
  -- it asks for a reply
  pub replies : Bool
  -- of the message, in bytes
  pub length : ℕ
  -- that are left
  pub retries : ℕ
  pub state : ClientState
  -- that have ended
  pub attempts : List Attempt

-- the start
abbrev pub began : Bool → Bool → ℕ → ℕ → Invoking
began idempotent replies length retries = record {
  idempotent = idempotent;
  replies = replies;
  length = length;
  retries = retries;
  state = Connecting;
  attempts = [];
}

-- the row of an event
abbrev pub row_of : Invoking → ClientEvent → Option ClientNext
row_of i event = client_row i.replies i.length i.state event

-- the event can come
abbrev pub MayCome : Invoking → ClientEvent → Type 0
MayCome i event = IsSome (row_of i event)

-- another attempt follows one that ended so
abbrev pub goes_on : Invoking → Attempt → Bool
goes_on i attempt = may_follow i.idempotent attempt && nat_lt 0 i.retries

-- an attempt has ended: it is listed, and each new connect uses up one retry
abbrev pub ended : Invoking → Attempt → Invoking
ended i attempt = record i {
  retries = if goes_on i attempt then i.retries - 1 else i.retries;
  state = if goes_on i attempt then Connecting else Finished;
  attempts = i.attempts ++ attempt ∷ [];
}

-- the state after an event
abbrev pub next_of : Invoking → Option ClientNext → Invoking
next_of i None = i
next_of i (Some (Goes state action)) = record i { state = state }
next_of i (Some (Ends attempt)) = ended i attempt

-- what is done at it
abbrev pub action_of : Invoking → Option ClientNext → ClientAction
action_of i None = Connect
action_of i (Some (Goes state action)) = action
action_of i (Some (Ends attempt)) = if goes_on i attempt then Connect else Finish attempt

-- how many attempts are under way: one, until the client is done
abbrev pub running : ClientState → ℕ
running Connecting = 1
running AwaitingValidate = 1
running (Sending taken) = 1
running AwaitingReply = 1
running Finished = 0
