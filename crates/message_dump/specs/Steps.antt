-- What the steps of telling an input do.
use Rattle.std.specs.Prelude.{ℕ, ◌≡◌, ◌≢◌, ◌≤◌, ◌<◌, ◌+◌, ◌*◌, ◌⊎◌, Bool, true, false, List, [], ◌++◌, length, Option, None, Some, Result, Ok, Err}
use Rattle.std.specs.Io.KnownBytes.{Appends}
use Rattle.ice_prims.specs.declared.fault.Fault.{Fault}
use Rattle.ice_prims.specs.declared.fault.Kind.TheVariants.{Short, Endless}
use Rattle.ice_prims.specs.Rest.{IsBytes}
use Rattle.ice_ports.specs.Failures.{count_after}
use Rattle.ice_messages.specs.declared.message.Message.{Message}
use Rattle.ice_encoding.specs.declared.limits.TheConstants.{LARGEST}
use Rattle.ice_messages.specs.Messages.{SpellsMessage}
use Rattle.ice_messages.specs.Streams.{next_at}
use Rattle.message_dump.specs.declared.dump.Dump.{Dump}
use Rattle.message_dump.specs.declared.dump.Dump.TheVariants.{Finished, Refused, ReadFailed, WriteFailed, Memory}
use Rattle.message_dump.specs.declared.dump.TheConstants.{MOST_MESSAGES}
use Rattle.message_dump.specs.declared.telling.Telling.{Telling}
use Rattle.message_dump.specs.Dumps.{Tells, fault_at, moved}
use Rattle.message_dump.specs.Sources.{Waits, GetsLines, is_write_failed}

-- ---- where it stands

-- Nothing was wrong so far.
pub record IsSound (t : Telling) : Type 0 where
  pub few : t.count ≤ MOST_MESSAGES
  pub near : t.place ≤ t.count * LARGEST
  pub going : t.frames.stopped ≡ None
  pub fits : IsBytes t.frames.bytes

-- bytes of which nothing is told yet
abbrev pub untold : List ℕ → Telling
untold bytes = record { frames = record { bytes = bytes; stopped = None }; count = 0; place = 0 }

-- with a piece behind what is held
abbrev pub fed : Telling → List ℕ → Telling
fed t piece = record { frames = record { bytes = t.frames.bytes ++ piece; stopped = None }; count = t.count; place = t.place }

-- from one to the other these lines were told
pub record Advances (old new : Telling) (lines : List ℕ) : Type 0 where
  pub more : ℕ
  pub tells : Tells more old.frames.bytes lines new.frames.bytes
  pub count : new.count ≡ old.count + more
  pub place : new.place + length new.frames.bytes ≡ old.place + length old.frames.bytes
  pub sound : IsSound new

-- ---- what comes next

-- The fault of what is held, whatever follows it: the first one of what stands next, or bytes behind the last message that is taken.
abbrev pub IsFaultHere : Telling → Fault → Type 0
IsFaultHere t fault = ((t.count ≡ MOST_MESSAGES) × (t.frames.bytes ≢ []) × (fault ≡ fault_at t.place Endless))
    ⊎ ((t.count < MOST_MESSAGES) × (first : Fault) × (next_at t.frames.bytes ≡ Err first) × (fault ≡ moved t.place first))

-- why no more is told
abbrev pub Stops : Telling → Dump → Type 0
Stops t Finished = ⊥
Stops t (Refused fault) = IsFaultHere t fault
Stops t ReadFailed = ⊥
Stops t WriteFailed = Unit {0}
Stops t Memory = Unit {0}

-- what it comes to where the input ends: nothing is left, or a message that is cut short
abbrev pub ComesTo : Telling → Dump → Type 0
ComesTo t Finished = t.frames.bytes ≡ []
ComesTo t (Refused fault) = (t.frames.bytes ≢ []) × (fault ≡ fault_at t.place Short)
ComesTo t ReadFailed = ⊥
ComesTo t WriteFailed = ⊥
ComesTo t Memory = ⊥

-- the next message, with its length, whose bytes are held no longer
abbrev pub TakesNext : Telling → Telling → Result (Option (ℕ × Message)) Dump → Type 0
TakesNext old new (Ok None) = Waits old.count old.frames.bytes × (new ≡ old)
TakesNext old new (Ok (Some x)) = (first : List ℕ) × (old.frames.bytes ≡ first ++ new.frames.bytes) × SpellsMessage first x.1 × (x.0 ≡ length first)
    × (new.count ≡ old.count + 1) × (new.place ≡ old.place + length first) × IsSound new
TakesNext old new (Err Finished) = ⊥
TakesNext old new (Err (Refused fault)) = IsFaultHere old fault
TakesNext old new (Err ReadFailed) = ⊥
TakesNext old new (Err WriteFailed) = ⊥
TakesNext old new (Err Memory) = Unit {0}

-- a message was told, or none is known
abbrev pub StepsTelling : Telling → Telling → Bool → Type 0
StepsTelling old new true = length new.frames.bytes < length old.frames.bytes
StepsTelling old new false = Waits new.count new.frames.bytes

-- Lines of messages were told and written, or a stop came behind them.
abbrev pub TellsOn : {X : Type 0} → Telling → Telling → (taken got : Option (List ℕ)) → (before after : ℕ) → Result X Dump → Type 0
TellsOn old new taken got before after (Ok x) = (lines : List ℕ) × Advances old new lines × Appends taken got lines × (after ≡ before)
TellsOn old new taken got before after (Err stop) = (mid : Telling) × (lines : List ℕ) × Advances old mid lines × Stops mid stop
    × GetsLines stop taken got lines × (after ≡ count_after before (is_write_failed stop))
