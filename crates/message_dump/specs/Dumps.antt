-- What is told of an input of messages: a line each, up to its end or its first fault.
use Rattle.std.specs.Prelude.{ℕ, zero, suc, ◌≡◌, ◌≢◌, ◌≤◌, ◌<◌, ◌+◌, ◌-◌, ◌⊎◌, List, [], ◌++◌, length, Option, None, Some, Ok, Err}
use Rattle.ice_prims.specs.declared.fault.Fault.{Fault}
use Rattle.ice_prims.specs.declared.fault.Kind.{Kind}
use Rattle.ice_prims.specs.declared.fault.Kind.TheVariants.{Short, Endless}
use Rattle.ice_messages.specs.declared.message.Message.{Message}
use Rattle.ice_messages.specs.Messages.{SpellsMessage}
use Rattle.ice_messages.specs.Streams.{next_at}
use Rattle.message_dump.specs.declared.dump.TheConstants.{MOST_MESSAGES}
use Rattle.message_dump.specs.Lines.{message_line}

-- The bytes begin with so many messages, which these lines tell, and these are left.
abbrev pub Tells : ℕ → List ℕ → List ℕ → List ℕ → Type 0
Tells zero bytes lines rest = (lines ≡ []) × (bytes ≡ rest)
Tells (suc n) bytes lines rest = (m : Message) × (first others more : List ℕ) × (bytes ≡ first ++ others) × SpellsMessage first m
    × (lines ≡ message_line (length first) m ++ more) × Tells n others more rest

-- a fault of what begins at this place of the input
abbrev pub moved : ℕ → Fault → Fault
moved place fault = record { place = place + fault.place; kind = fault.kind }

abbrev pub fault_at : ℕ → Kind → Fault
fault_at place kind = record { place = place; kind = kind }

-- What the rest of an input is, behind so many messages, from this place on: nothing, or bytes with this fault. A message that the
-- input does not hold whole is short, and after the last message that is taken there is none.
abbrev pub EndsInput : ℕ → ℕ → List ℕ → Option Fault → Type 0
EndsInput n place rest None = rest ≡ []
EndsInput n place rest (Some fault) = (rest ≢ []) × (
    ((n ≡ MOST_MESSAGES) × (fault ≡ fault_at place Endless))
    ⊎ ((n < MOST_MESSAGES) × (next_at rest ≡ Ok None) × (fault ≡ fault_at place Short))
    ⊎ ((n < MOST_MESSAGES) × (first : Fault) × (next_at rest ≡ Err first) × (fault ≡ moved place first)))

-- The input is told by these lines, and has this fault behind them, or none.
abbrev pub IsDump : List ℕ → List ℕ → Option Fault → Type 0
IsDump input lines end = (n : ℕ) × (rest : List ℕ) × (n ≤ MOST_MESSAGES) × Tells n input lines rest × EndsInput n (length input - length rest) rest end
