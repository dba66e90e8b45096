-- The first fault of bytes that have to be one message: by what stands before it, and the kind of the defect. (Ice manual, "Protocol Messages".)
use Rattle.std.specs.Prelude.{ℕ, ℤ, pos, ◌≡◌, ◌≢◌, ◌≤◌, ◌<◌, ◌+◌, ◌⊎◌, List, [], ◌∷◌, ◌++◌, length, nat_le}
use Rattle.ice_prims.specs.declared.fault.Fault.{Fault}
use Rattle.ice_prims.specs.declared.fault.Kind.{Kind}
use Rattle.ice_prims.specs.declared.fault.Kind.TheVariants.{BadMagic, BadVersion, BadMessage, Compressed, BadStatus, LeftOver}
use Rattle.ice_encoding.specs.declared.limits.TheConstants.{LARGEST}
use Rattle.ice_encoding.specs.Parts.{Part, byte, exactly, tested}
use Rattle.ice_messages.specs.declared.message.Message.{Message}
use Rattle.ice_messages.specs.declared.message.TheConstants.{HEADER_BYTES}
use Rattle.ice_messages.specs.Messages.{header, magic, versions, message_type, compression, body_by, SpellsMessage}
use Rattle.ice_messages.specs.Defects.{Defect, At, Lacks, Unfit, Or, Then, InBound, ClaimBreaks}
use Rattle.ice_messages.specs.Breaks.{BodyBreaks, version_bytes}

-- ---- the header, part by part

-- these bytes lack, or others stand there
abbrev pub OtherBytes : List ℕ → Kind → Defect
OtherBytes known kind = λ place bytes fault. Lacks (length known) place bytes fault
    ⊎ ((a rest : List ℕ) × (bytes ≡ a ++ rest) × (length a ≡ length known) × (a ≢ known) × At place kind fault)

-- a byte of `IceP`
abbrev pub letter : ℕ → Part (Unit {0})
letter k = exactly (k ∷ []) BadMagic

abbrev pub LetterBreaks : ℕ → Defect
LetterBreaks k = OtherBytes (k ∷ []) BadMagic

abbrev pub MagicBreaks : Defect
MagicBreaks = Then (letter 73) (LetterBreaks 73) (λ i. Then (letter 99) (LetterBreaks 99) (λ c. Then (letter 101) (LetterBreaks 101) (λ e. LetterBreaks 80)))

-- the version of the protocol, and that of its encoding
abbrev pub VersionsBreak : Defect
VersionsBreak = Then (exactly version_bytes BadVersion) (OtherBytes version_bytes BadVersion) (λ v. OtherBytes version_bytes BadVersion)

abbrev pub TypeBreaks : Defect
TypeBreaks = Or (Lacks 1) (Unfit byte (λ t. 4 < t) BadMessage)

-- a compression status that there is
abbrev pub known_status : Part ℕ
known_status = tested (λ s. nat_le s 2) BadStatus byte

abbrev pub CompressionBreaks : Defect
CompressionBreaks = Or (Or (Lacks 1) (Unfit byte (λ s. 2 < s) BadStatus)) (Unfit known_status (λ s. 1 < s) Compressed)

abbrev pub HeaderBreaks : Defect
HeaderBreaks = Then magic MagicBreaks (λ m. Then versions VersionsBreak (λ v. Then message_type TypeBreaks (λ t. Then compression CompressionBreaks (λ s. Lacks 4))))

-- ---- the message

-- The header has the defect, or counts what may not be, more than there is among it; or what follows by its type has it; or
-- bytes stand behind the message.
pub data InputBreaks (bytes : List ℕ) (fault : Fault) : Type 0 where
  bad_header : HeaderBreaks 0 bytes fault → InputBreaks bytes fault
  bad_count : (type : ℕ) (z : ℤ) (head rest : List ℕ) → bytes ≡ head ++ rest → header.Spells head (type, z) → ClaimBreaks (length bytes) HEADER_BYTES z 10 fault → InputBreaks bytes fault
  bad_inside : (type n : ℕ) (head inside rest : List ℕ) → bytes ≡ head ++ (inside ++ rest) → header.Spells head (type, pos n) → HEADER_BYTES ≤ n → n ≤ LARGEST → n ≡ HEADER_BYTES + length inside
      → InBound (body_by type) (BodyBreaks type) HEADER_BYTES inside fault → InputBreaks bytes fault
  left_over : (m : Message) (first left : List ℕ) (byte : ℕ) → bytes ≡ first ++ byte ∷ left → SpellsMessage first m → At (length first) LeftOver fault → InputBreaks bytes fault
