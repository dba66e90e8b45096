-- A request of which only the first bytes came.
use Rattle.std.specs.Prelude.{ℕ, ℤ, ◌≡◌, ◌≤◌, ◌⊎◌, List, [], ◌++◌, length, Option}
use Rattle.ice_ports.specs.declared.talk.Talk.{Talk}
use Rattle.ice_messages.specs.declared.message.Call.{Call}
use Rattle.ice_messages.specs.declared.message.Message.TheVariants.{Request, Validate}
use Rattle.ice_messages.specs.Messages.{SpellsMessage}
use Rattle.talking.specs.declared.end.End.{End}
use Rattle.dispatch_pool.specs.Handled.{Keys, Handled}
use Rattle.dispatch_pool.specs.ServerDid.{ServerDid}

-- a heartbeat, or nothing
abbrev pub IsHeartbeat : List ℕ → Type 0
IsHeartbeat bytes = (bytes ≡ []) ⊎ SpellsMessage bytes Validate

-- a server that was given the first bytes of a request has handled no call where bytes lack, and at most one where none does
abbrev pub CutCallsAreNone : Type 0
CutCallsAreNone =
    (keys : Keys) (most : ℕ) (t : Talk) (handled : List Handled) (end : Option End) (id : ℤ) (call : Call) (before front more : List ℕ)
    → ServerDid keys most t handled end → t.given ≡ before ++ front → IsHeartbeat before → SpellsMessage (front ++ more) (Request id call)
    → (1 ≤ length more → handled ≡ []) × (more ≡ [] → length handled ≤ 1)
