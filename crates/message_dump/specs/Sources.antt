-- What is told of a source, and what the sink gets of it.
use Rattle.std.specs.Prelude.{ℕ, ◌≡◌, ◌≤◌, ◌<◌, ◌⊎◌, Bool, true, false, List, [], ◌++◌, length, Option, None, Some, Ok}
use Rattle.std.specs.Io.KnownBytes.{Appends, Consumes, IsAtEnd}
use Rattle.ice_ports.specs.declared.ports.TheConstants.{MOST_OF_A_READ}
use Rattle.ice_ports.specs.Writing.{AppendsPrefix}
use Rattle.ice_messages.specs.Streams.{next_at}
use Rattle.message_dump.specs.declared.dump.Dump.{Dump}
use Rattle.message_dump.specs.declared.dump.Dump.TheVariants.{Finished, Refused, ReadFailed, WriteFailed, Memory}
use Rattle.message_dump.specs.declared.dump.TheConstants.{MOST_MESSAGES}
use Rattle.message_dump.specs.Dumps.{Tells, IsDump}

-- ---- what is told

-- Behind so many messages more has to be read: none is whole in what is left, or after the last that is taken nothing is left.
abbrev pub Waits : ℕ → List ℕ → Type 0
Waits n rest = ((n ≡ MOST_MESSAGES) × (rest ≡ [])) ⊎ ((n < MOST_MESSAGES) × (next_at rest ≡ Ok None))

-- the lines of messages with which the bytes begin
pub record TellsSome (bytes lines : List ℕ) : Type 0 where
  pub count : ℕ
  pub rest : List ℕ
  pub few : count ≤ MOST_MESSAGES
  pub tells : Tells count bytes lines rest

-- the lines of all messages that are known by the bytes
pub record TellsAll (bytes lines : List ℕ) : Type 0 where
  pub count : ℕ
  pub rest : List ℕ
  pub tells : Tells count bytes lines rest
  pub waits : Waits count rest

-- What was read, where this is left of the source, is told by these lines. A refusal tells the fault of the whole input: of what
-- was read, where the source is at its end, or of whatever begins with what was read.
abbrev pub IsTold : Option (List ℕ) → List ℕ → List ℕ → Dump → Type 0
IsTold left got lines Finished = IsAtEnd left × IsDump got lines None
IsTold left got lines (Refused fault) = (IsAtEnd left × IsDump got lines (Some fault)) ⊎ ((more : List ℕ) → IsDump (got ++ more) lines (Some fault))
IsTold left got lines ReadFailed = TellsAll got lines
IsTold left got lines WriteFailed = TellsSome got lines
IsTold left got lines Memory = TellsSome got lines

-- More was read only where it had to be: what was read before the last piece was messages that were told, and waited.
pub record ReadsFrugally (old new : Option (List ℕ)) : Type 0 where
  pub before : List ℕ
  pub piece : List ℕ
  pub lines : List ℕ
  pub consumed : Consumes old new (before ++ piece)
  pub most : length piece ≤ MOST_OF_A_READ
  pub told : TellsAll before lines

-- ---- what the sink gets

-- all lines, or where the sink failed a prefix of them
abbrev pub GetsLines : Dump → Option (List ℕ) → Option (List ℕ) → List ℕ → Type 0
GetsLines Finished old new lines = Appends old new lines
GetsLines (Refused fault) old new lines = Appends old new lines
GetsLines ReadFailed old new lines = Appends old new lines
GetsLines WriteFailed old new lines = AppendsPrefix old new lines
GetsLines Memory old new lines = Appends old new lines

-- ---- failures

abbrev pub is_read_failed : Dump → Bool
is_read_failed Finished = false
is_read_failed (Refused fault) = false
is_read_failed ReadFailed = true
is_read_failed WriteFailed = false
is_read_failed Memory = false

abbrev pub is_write_failed : Dump → Bool
is_write_failed Finished = false
is_write_failed (Refused fault) = false
is_write_failed ReadFailed = false
is_write_failed WriteFailed = true
is_write_failed Memory = false
