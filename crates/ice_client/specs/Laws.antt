-- What the table of attempts and talks promises.
use Rattle.std.specs.Prelude.{◌≡◌, Bool}
use Rattle.ice_ports.specs.declared.talk.Talk.{Talk}
use Rattle.retry_core.specs.declared.attempt.Attempt.{Attempt}
use Rattle.ice_messages.specs.declared.message.Answer.{Answer}
use Rattle.ice_client.specs.declared.outcome.Outcome.{Outcome}
use Rattle.ice_client.specs.declared.outgoing.Outgoing.{Outgoing}
use Rattle.ice_client.specs.Rows.{Row, IsReplied}

-- a talk has one row: no two attempts can have ended over it
abbrev pub TalksHaveOneRow : Type 0
TalksHaveOneRow =
    (o : Outgoing) (cached : Bool) (t : Talk) (a b : Attempt) (outcome other : Outcome)
    → Row o cached a outcome t → Row o cached b other t → a ≡ b

-- and one answer was read over it
abbrev pub RepliesHaveOneAnswer : Type 0
RepliesHaveOneAnswer =
    (o : Outgoing) (cached : Bool) (t : Talk) (a b : Answer) (stale moved : Bool)
    → IsReplied o cached t a stale → IsReplied o cached t b moved → a ≡ b
