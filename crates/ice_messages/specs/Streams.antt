-- Messages one after the other, as a connection gives them: in pieces, the last of which may lack. (Ice manual, "Protocol Messages".)
use Rattle.std.specs.Prelude.{ℕ, ℤ, pos, ◌≡◌, ◌≤◌, ◌<◌, ◌⊎◌, List, [], ◌∷◌, ◌++◌, length, drop, Option, None, Some, Result, Ok, Err, nat_lt, if◌then◌else◌}
use Rattle.ice_prims.specs.declared.fault.Fault.{Fault}
use Rattle.ice_prims.specs.Rest.{Rest, ◌>>=◌, whole}
use Rattle.ice_encoding.specs.declared.limits.TheConstants.{LARGEST}
use Rattle.ice_encoding.specs.Bounds.{claimed}
use Rattle.ice_messages.specs.declared.message.Message.{Message}
use Rattle.ice_messages.specs.declared.message.TheConstants.{HEADER_BYTES}
use Rattle.ice_messages.specs.Messages.{header, message_at, SpellsMessage}

-- The bytes spell these messages, one after the other, and then these are left.
abbrev pub Stream : List ℕ → List Message → List ℕ → Type 0
Stream bytes [] rest = bytes ≡ rest
Stream bytes (m ∷ ms) rest = (first others : List ℕ) × (bytes ≡ first ++ others) × SpellsMessage first m × Stream others ms rest

-- ---- a message of which some bytes may lack

-- fewer bytes than a header has, with which a header begins
abbrev pub BeginsHeader : List ℕ → Type 0
BeginsHeader bytes = (more : List ℕ) × (type : ℕ) × (size : ℤ) × (length bytes < HEADER_BYTES) × header.Spells (bytes ++ more) (type, size)

-- a header, and fewer bytes than it counts
abbrev pub BeginsMessage : List ℕ → Type 0
BeginsMessage bytes = (head more : List ℕ) × (type n : ℕ) × (bytes ≡ head ++ more) × header.Spells head (type, pos n) × (HEADER_BYTES ≤ n) × (n ≤ LARGEST) × (length bytes < n)

-- Nothing is wrong so far, and no message is whole.
abbrev pub IsFront : List ℕ → Type 0
IsFront bytes = BeginsHeader bytes ⊎ BeginsMessage bytes

-- ---- what stands next, as soon as it is known

-- a header without fault, for those of its bytes that are not there yet
abbrev pub good_header : List ℕ
good_header = 73 ∷ 99 ∷ 101 ∷ 80 ∷ 1 ∷ 0 ∷ 1 ∷ 0 ∷ 3 ∷ 0 ∷ 14 ∷ 0 ∷ 0 ∷ 0 ∷ []

-- the header that begins here, as if the bytes that are not there yet were good
abbrev pub started : List ℕ → Result ((ℕ × ℤ) × Rest) Fault
started bytes = header.read (whole (bytes ++ drop (length bytes) good_header))

-- by a header that is whole: none where fewer bytes are there than it counts
abbrev pub counted : List ℕ → ℕ → Result (Option (Message × Rest)) Fault
counted bytes n = if nat_lt (length bytes) n then Ok None else message_at (whole bytes) >>= λ m. Ok (Some m)

-- None while the bytes are a front; else the message, and what follows it, or the first fault. Places count from the first byte.
abbrev pub next_at : List ℕ → Result (Option (Message × Rest)) Fault
next_at bytes = do
  head ← started bytes
  if nat_lt (length bytes) HEADER_BYTES then Ok None else claimed 10 LARGEST HEADER_BYTES head.0.1 >>= counted bytes

-- What follows the messages of a stream: a front, or the first fault of the next message.
abbrev pub StreamEnds : List ℕ → Option Fault → Type 0
StreamEnds rest None = IsFront rest
StreamEnds rest (Some fault) = next_at rest ≡ Err fault

-- The bytes are these messages, and what follows them ends so.
abbrev pub IsStream : List ℕ → List Message → List ℕ → Option Fault → Type 0
IsStream bytes ms rest end = Stream bytes ms rest × StreamEnds rest end
