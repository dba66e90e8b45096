-- The messages of protocol 1.0: a header with the type and the size, and what follows by the type. (Ice manual, "Protocol Messages".)
use Rattle.std.specs.Prelude.{ℕ, ℤ, pos, negsuc, zero, suc, ◌≡◌, ◌≤◌, ◌+◌, ◌-◌, Bool, true, false, List, [], ◌∷◌, ◌++◌, length, Result, Ok, nat_le}
use Rattle.ice_prims.specs.declared.fault.Fault.{Fault}
use Rattle.ice_prims.specs.declared.fault.Kind.TheVariants.{BadSize, BadMagic, BadVersion, BadMessage, Compressed, BadStatus}
use Rattle.ice_prims.specs.Rest.{Rest, ◌>>=◌, bound_at}
use Rattle.ice_encoding.specs.declared.limits.TheConstants.{LARGEST}
use Rattle.ice_encoding.specs.Parts.{Part, byte, int, exactly, nothing, both, made, tested, chosen, times}
use Rattle.ice_encoding.specs.Bounds.{claimed, filled}
use Rattle.ice_encoding.specs.Identity.{no_identity}
use Rattle.ice_messages.specs.declared.message.Call.{Call}
use Rattle.ice_messages.specs.declared.message.Answer.{Answer}
use Rattle.ice_messages.specs.declared.message.Answer.TheVariants.{Done}
use Rattle.ice_messages.specs.declared.message.Message.{Message}
use Rattle.ice_messages.specs.declared.message.Message.TheVariants.{Request, Batch, Reply, Validate, Close}
use Rattle.ice_messages.specs.declared.message.TheConstants.{HEADER_BYTES}
use Rattle.ice_messages.specs.Calls.{call, answer}

-- ---- by the type

-- a count is an int that is not negative
abbrev pub is_count : ℤ → Bool
is_count (pos n) = true
is_count (negsuc n) = false

abbrev pub count_of : ℤ → ℕ
count_of (pos n) = n
count_of (negsuc n) = 0

-- a batch's count and calls
abbrev pub calls : Part (List Call)
calls = chosen (tested is_count BadSize int) (λ z. times call (count_of z)) (λ items. pos (length items))

abbrev pub type_of : Message → ℕ
type_of (Request id c) = 0
type_of (Batch items) = 1
type_of (Reply id a) = 2
type_of Validate = 3
type_of Close = 4

abbrev pub no_call : Call
no_call = record { identity = no_identity; facet = []; operation = []; mode = 0; context = []; body = [] }

abbrev pub request_of : Message → ℤ × Call
request_of (Request id c) = (id, c)
request_of (Batch items) = (pos 0, no_call)
request_of (Reply id a) = (pos 0, no_call)
request_of Validate = (pos 0, no_call)
request_of Close = (pos 0, no_call)

abbrev pub calls_of : Message → List Call
calls_of (Request id c) = []
calls_of (Batch items) = items
calls_of (Reply id a) = []
calls_of Validate = []
calls_of Close = []

abbrev pub reply_of : Message → ℤ × Answer
reply_of (Request id c) = (pos 0, Done [])
reply_of (Batch items) = (pos 0, Done [])
reply_of (Reply id a) = (id, a)
reply_of Validate = (pos 0, Done [])
reply_of Close = (pos 0, Done [])

-- what follows the header, by the type
abbrev pub body_by : ℕ → Part Message
body_by zero = made (λ x. Request x.0 x.1) request_of (both int call)
body_by (suc zero) = made Batch calls_of calls
body_by (suc (suc zero)) = made (λ x. Reply x.0 x.1) reply_of (both int answer)
body_by (suc (suc (suc zero))) = nothing Validate
body_by (suc (suc (suc (suc n)))) = nothing Close

-- ---- the header

abbrev pub magic : Part (Unit {0})
magic = made (λ x. tt) (λ x. (tt, (tt, (tt, tt)))) (both (exactly (73 ∷ []) BadMagic) (both (exactly (99 ∷ []) BadMagic) (both (exactly (101 ∷ []) BadMagic) (exactly (80 ∷ []) BadMagic))))

-- of the protocol, and of the encoding of the header
abbrev pub versions : Part (Unit {0})
versions = made (λ x. tt) (λ x. (tt, tt)) (both (exactly (1 ∷ 0 ∷ []) BadVersion) (exactly (1 ∷ 0 ∷ []) BadVersion))

abbrev pub message_type : Part ℕ
message_type = tested (λ t. nat_le t 4) BadMessage byte

-- not compressed, whether the peer could read that or not; written as one that cannot
abbrev pub compression : Part (Unit {0})
compression = made (λ s. tt) (λ x. 0) (tested (λ s. nat_le s 1) Compressed (tested (λ s. nat_le s 2) BadStatus byte))

-- the type, and the size of the whole message
abbrev pub header : Part (ℕ × ℤ)
header = made (λ x. (x.1.1.0, x.1.1.1.1)) (λ h. (tt, (tt, (h.0, (tt, h.1))))) (both magic (both versions (both message_type (both compression int))))

-- ---- a message

-- a message that begins here, whatever follows it
abbrev pub message_at : Rest → Result (Message × Rest) Fault
message_at r = do
  head ← header.read r
  n ← claimed (r.place + 10) (length r.bytes) HEADER_BYTES head.0.1
  bound ← bound_at (n - HEADER_BYTES) head.1
  m ← filled (body_by head.0.0).read bound.0
  Ok (m, bound.1)

-- its header counts all of it
abbrev pub SpellsMessage : List ℕ → Message → Type 0
SpellsMessage bytes m = (type : ℕ) × (head body : List ℕ) × (bytes ≡ head ++ body) × header.Spells head (type, pos (length bytes)) × (length bytes ≤ LARGEST) × (body_by type).Spells body m

-- what is put for a message
abbrev pub message_bytes : Message → List ℕ
message_bytes m = header.put (type_of m, pos (HEADER_BYTES + length ((body_by (type_of m)).put m))) ++ (body_by (type_of m)).put m

-- which messages there are
abbrev pub IsMessage : Message → Type 0
IsMessage m = (body_by (type_of m)).Is m

-- one message and nothing after it
abbrev pub whole_message_at : Rest → Result Message Fault
whole_message_at = filled message_at
