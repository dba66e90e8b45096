-- What the calls answer that look at what stands next.
use Rattle.std.specs.Prelude.{ℕ, ◌≡◌, ◌≤◌, ◌+◌, Bool, true, false, List, ◌++◌, length, drop, Option, None, Some, Result, Ok, Err}
use Rattle.ice_prims.specs.declared.fault.Fault.{Fault}
use Rattle.ice_prims.specs.declared.fault.ReadFault.{ReadFault}
use Rattle.ice_prims.specs.Rest.{Rest, after, whole, ◌>>=◌}
use Rattle.ice_prims.specs.declared.fault.ReadFault.TheVariants as faults
use Rattle.ice_encoding.specs.Bounds.{claimed}
use Rattle.ice_encoding.specs.declared.limits.TheConstants.{LARGEST}
use Rattle.ice_messages.specs.declared.message.Message.{Message}
use Rattle.ice_messages.specs.Streams.{IsFront, next_at}
use Rattle.ice_messages.specs.Breaks.{MessageBreaks}
use Rattle.ice_messages.specs.Written.{IsOrderly}
use Rattle.ice_messages.specs.Messages.{header, message_at, SpellsMessage}
use Rattle.ice_messages.specs.declared.message.TheConstants.{HEADER_BYTES}

-- the message that begins the bytes
abbrev pub whole_next : List ℕ → Result (Option (Message × Rest)) Fault
whole_next bytes = message_at (whole bytes) >>= λ m. Ok (Some m)

-- the size that a whole header counts
abbrev pub size_counted : List ℕ → Result ℕ Fault
size_counted bytes = header.read (whole bytes) >>= λ head. claimed 10 LARGEST HEADER_BYTES head.0.1

-- a header without fault, and as many bytes as it counts
abbrev pub IsWholeNext : List ℕ → Type 0
IsWholeNext bytes = (n : ℕ) × (size_counted bytes ≡ Ok n) × (n ≤ length bytes)

-- memory ran out for a whole message alone, and not for one with a fault in its header
abbrev pub IsWholeForMemory : {X : Type 0} → Result X ReadFault → List ℕ → Type 0
IsWholeForMemory (Ok x) bytes = Unit {0}
IsWholeForMemory (Err (faults.Broken fault)) bytes = Unit {0}
IsWholeForMemory (Err faults.Memory) bytes = IsWholeNext bytes

-- the size that a header counts from here on, where so many bytes are there
abbrev pub size_at_header : Rest → Result ℕ Fault
size_at_header r = header.read r >>= λ head. claimed (r.place + 10) (length r.bytes) HEADER_BYTES head.0.1

-- the same of what is left: its header and the size that it counts have no fault
abbrev pub IsCountedForMemory : {X : Type 0} → Result X ReadFault → Rest → Type 0
IsCountedForMemory (Ok x) r = Unit {0}
IsCountedForMemory (Err (faults.Broken fault)) r = Unit {0}
IsCountedForMemory (Err faults.Memory) r = (n : ℕ) × (size_at_header r ≡ Ok n)

-- The message with how many bytes it has, or none; or the first fault. Memory runs out for a whole message alone.
abbrev pub StandsNext : Result (Option (Message × ℕ)) ReadFault → List ℕ → Type 0
StandsNext (Ok None) bytes = next_at bytes ≡ Ok None
StandsNext (Ok (Some x)) bytes = (next_at bytes ≡ Ok (Some (x.0, after (whole bytes) x.1))) × (x.1 ≤ length bytes) × IsOrderly x.0
StandsNext (Err (faults.Broken fault)) bytes = next_at bytes ≡ Err fault
StandsNext (Err faults.Memory) bytes = IsWholeNext bytes

-- The same by what the bytes are: a front, the spelling of a message and what follows it, or the first defect.
abbrev pub IsNext : Result (Option (Message × ℕ)) ReadFault → List ℕ → Type 0
IsNext (Ok None) bytes = StandsNext (Ok None) bytes × IsFront bytes
IsNext (Ok (Some x)) bytes = StandsNext (Ok (Some x)) bytes × (first : List ℕ) × (bytes ≡ first ++ drop x.1 bytes) × (x.1 ≡ length first) × SpellsMessage first x.0
IsNext (Err (faults.Broken fault)) bytes = StandsNext (Err (faults.Broken fault)) bytes × MessageBreaks bytes fault
IsNext (Err faults.Memory) bytes = StandsNext (Err faults.Memory) bytes

-- whether a message is whole, by a header that is, or the fault of that header
abbrev pub IsCounted : Result Bool Fault → List ℕ → Type 0
IsCounted (Ok true) bytes = (next_at bytes ≡ whole_next bytes) × IsWholeNext bytes
IsCounted (Ok false) bytes = next_at bytes ≡ Ok None
IsCounted (Err e) bytes = next_at bytes ≡ Err e
