-- A reader of messages that come in pieces.
use Rattle.std.specs.Prelude.{ℕ, ◌≡◌, List, [], ◌∷◌, ◌++◌, Option, None, Some, IsSome, Result, Ok, Err}
use Rattle.ice_prims.specs.declared.fault.Fault.{Fault}
use Rattle.ice_prims.specs.declared.fault.ReadFault.{ReadFault}
use Rattle.ice_prims.specs.declared.fault.ReadFault.TheVariants as read_faults
use Rattle.ice_prims.specs.Rest.{Rest}
use Rattle.ice_messages.specs.declared.message.Message.{Message}
use Rattle.ice_messages.specs.declared.fault.FeedFault.{FeedFault}
use Rattle.ice_messages.specs.declared.fault.FeedFault.TheVariants.{Stopped, Memory}
use Rattle.ice_messages.specs.Streams.{IsFront, next_at}
use Rattle.ice_messages.specs.Messages.{SpellsMessage}
use Rattle.ice_messages.specs.Breaks.{MessageBreaks}
use Rattle.ice_messages.specs.Next.{IsWholeNext}
use Rattle.ice_messages.specs.Written.{IsOrderly}

-- the bytes that were fed and are of no message yet, and the fault that stopped the reader
pub record Held : Type 0 where
  pub bytes : List ℕ
  pub stopped : Option Fault

abbrev pub nothing_held : Held
nothing_held = record { bytes = []; stopped = None }

-- A piece goes behind the bytes that are held. A reader that has stopped takes none.
abbrev pub Feeds : {X : Type 0} → List ℕ → Held → Held → Result X FeedFault → Type 0
Feeds piece old new (Ok x) = (old.stopped ≡ None) × (new ≡ record { bytes = old.bytes ++ piece; stopped = None })
Feeds piece old new (Err Stopped) = IsSome old.stopped × (new ≡ old)
Feeds piece old new (Err Memory) = (old.stopped ≡ None) × (new ≡ old)

-- the fault that has stopped the reader, or the first one of the bytes that it holds
abbrev pub IsFaultOf : Held → Fault → Type 0
IsFaultOf old fault = elim old.stopped [ None ↦ next_at old.bytes ≡ Err fault | Some before ↦ before ≡ fault ]

-- By what stands next in the bytes that are held: none while they are a front; else the message, whose spelling goes, or
-- the fault, which stops the reader for good. Memory runs out for a whole message alone, which stays.
abbrev pub NextOf : Held → Held → Result (Option Message) ReadFault → Type 0
NextOf old new (Ok None) = (old.stopped ≡ None) × (next_at old.bytes ≡ Ok None) × (new ≡ old) × IsFront old.bytes
NextOf old new (Ok (Some m)) = (old.stopped ≡ None) × (rest : Rest) × (next_at old.bytes ≡ Ok (Some (m, rest))) × (new ≡ record { bytes = rest.bytes; stopped = None })
    × IsOrderly m × (first : List ℕ) × (old.bytes ≡ first ++ rest.bytes) × SpellsMessage first m
NextOf old new (Err (read_faults.Broken fault)) = IsFaultOf old fault × (new ≡ record { bytes = old.bytes; stopped = Some fault })
    × (old.stopped ≡ None → MessageBreaks old.bytes fault)
NextOf old new (Err read_faults.Memory) = (old.stopped ≡ None) × (new ≡ old) × IsWholeNext old.bytes

-- ---- what was fed, and what was handed out

-- from nothing, by pieces that were taken and messages that were handed out
pub data Ran : List ℕ → List Message → Held → Type 0 where
  begun : Ran [] [] nothing_held
  fed : (bytes piece : List ℕ) (ms : List Message) (old new : Held) → Ran bytes ms old → Feeds {X = Unit {0}} piece old new (Ok tt) → Ran (bytes ++ piece) ms new
  gave : (bytes : List ℕ) (ms : List Message) (m : Message) (old new : Held) → Ran bytes ms old → NextOf old new (Ok (Some m)) → Ran bytes (ms ++ m ∷ []) new
  waited : (bytes : List ℕ) (ms : List Message) (old new : Held) → Ran bytes ms old → NextOf old new (Ok None) → Ran bytes ms new
  broke : (bytes : List ℕ) (ms : List Message) (fault : Fault) (old new : Held) → Ran bytes ms old → NextOf old new (Err (read_faults.Broken fault)) → Ran bytes ms new
