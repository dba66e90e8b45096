-- What is asked of a message that is written, and what writing answers.
use Rattle.std.specs.Prelude.{ℕ, pos, ◌≡◌, ◌≤◌, ◌<◌, ◌-◌, ◌^◌, ◌⊎◌, List, ◌++◌, length, min, Result, Ok, Err, Vec}
use Rattle.std.specs.declared.alloc.Global.{Global}
use Rattle.ice_encoding.specs.declared.limits.TheConstants.{LARGEST}
use Rattle.ice_encoding.specs.Parts.{Part, Each}
use Rattle.ice_messages.specs.declared.message.Call.{Call}
use Rattle.ice_messages.specs.declared.message.Answer.{Answer}
use Rattle.ice_messages.specs.declared.message.Answer.TheVariants.{Done, Raised, Missing, Unknown}
use Rattle.ice_messages.specs.declared.message.Message.{Message}
use Rattle.ice_messages.specs.declared.message.Message.TheVariants.{Request, Batch, Reply, Validate, Close}
use Rattle.ice_messages.specs.declared.fault.WriteFault.{WriteFault}
use Rattle.ice_messages.specs.declared.fault.WriteFault.TheVariants.{TooLong, Memory}
use Rattle.ice_messages.specs.Context.{AreRising}
use Rattle.ice_messages.specs.Calls.{IsEncapsulation}
use Rattle.ice_messages.specs.Messages.{header, message_bytes, SpellsMessage}

-- ---- which messages may be written, by what is asked of a body

-- a mode that there is, a context in rising order of its names, and such a body
pub record IsCallWith (IsBody : List ℕ → Type 0) (c : Call) : Type 0 where
  pub mode : c.mode ≤ 2
  pub context : AreRising c.context
  pub body : IsBody c.body

-- such a body, or a status that goes with what is said
abbrev pub IsAnswerWith : (List ℕ → Type 0) → Answer → Type 0
IsAnswerWith IsBody (Done body) = IsBody body
IsAnswerWith IsBody (Raised body) = IsBody body
IsAnswerWith IsBody (Missing status i f o) = (2 ≤ status) × (status ≤ 4)
IsAnswerWith IsBody (Unknown status what) = (5 ≤ status) × (status ≤ 7)

abbrev pub IsMessageWith : (List ℕ → Type 0) → Message → Type 0
IsMessageWith IsBody (Request id c) = IsCallWith IsBody c
IsMessageWith IsBody (Batch items) = Each (IsCallWith IsBody) items
IsMessageWith IsBody (Reply id a) = IsAnswerWith IsBody a
IsMessageWith IsBody Validate = Unit {0}
IsMessageWith IsBody Close = Unit {0}

-- one encapsulation
abbrev pub IsCall : Call → Type 0
IsCall = IsCallWith IsEncapsulation

abbrev pub IsAnswer : Answer → Type 0
IsAnswer = IsAnswerWith IsEncapsulation

-- a message as one is read: its modes, statuses, encapsulations, a context in rising order
abbrev pub IsOrderly : Message → Type 0
IsOrderly = IsMessageWith IsEncapsulation

-- one encapsulation, or more bytes than a message may have
abbrev pub IsBody : List ℕ → Type 0
IsBody bytes = IsEncapsulation bytes ⊎ (LARGEST < length bytes)

-- a call, an answer, a message that may be asked to be written, be it too long or not
abbrev pub IsWritableCall : Call → Type 0
IsWritableCall = IsCallWith IsBody

abbrev pub IsWritableAnswer : Answer → Type 0
IsWritableAnswer = IsAnswerWith IsBody

abbrev pub IsWritable : Message → Type 0
IsWritable = IsMessageWith IsBody

-- ---- what writing answers

-- a length as it is told: the greatest number where it is above it
abbrev pub told : ℕ → ℕ
told n = min n (2 ^ 64 - 1)

-- The bytes of the message, which spell it, or that they are more than a message may have; memory runs out for what a
-- message may have.
abbrev pub Writes : Result (List ℕ) WriteFault → Message → Type 0
Writes (Ok bytes) m = (bytes ≡ message_bytes m) × (length bytes ≤ LARGEST) × SpellsMessage bytes m
Writes (Err (TooLong n)) m = (LARGEST < length (message_bytes m)) × (n ≡ told (length (message_bytes m)))
Writes (Err Memory) m = length (message_bytes m) ≤ LARGEST

-- the header of a message of this type and so many bytes, or that they are too many
abbrev pub PutsHeader : ℕ → ℕ → Result (Vec ℕ Global) WriteFault → Type 0
PutsHeader type n (Ok out) = (out.items ≡ header.put (type, pos n)) × (n ≤ LARGEST)
PutsHeader type n (Err (TooLong m)) = (LARGEST < n) × (m ≡ n)
PutsHeader type n (Err Memory) = n ≤ LARGEST

-- what is put of a part stands behind what stood there, and it is one that there is
abbrev pub Puts : {A : Type 0} → Part A → A → List ℕ → List ℕ → Type 0
Puts part x old new = (new ≡ old ++ part.put x) × part.Is x
