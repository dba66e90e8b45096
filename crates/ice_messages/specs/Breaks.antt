-- The first fault of a message, as soon as it is known: by what stands before it, and the kind of the defect. (Ice manual, "Protocol Messages".)
use Rattle.std.specs.Prelude.{ℕ, ℤ, pos, zero, suc, ◌≡◌, ◌≢◌, ◌≤◌, ◌<◌, ◌+◌, ◌⊎◌, false, List, [], ◌∷◌, ◌++◌, length, None, IsSome, nat_le}
use Rattle.std.specs.Int.{w32}
use Rattle.ice_prims.specs.declared.fault.Fault.{Fault}
use Rattle.ice_prims.specs.declared.fault.Kind.TheVariants.{BadSize, BadMagic, BadVersion, BadMessage, Compressed, BadStatus, BadFacet, BadMode, EqualKey}
use Rattle.ice_prims.specs.Number.{SpellsSigned, SpellsText}
use Rattle.ice_encoding.specs.declared.limits.TheConstants.{LARGEST, SMALLEST}
use Rattle.ice_encoding.specs.Parts.{Part, byte, int, size, text, tested}
use Rattle.ice_encoding.specs.Identity.{identity, facet}
use Rattle.ice_messages.specs.declared.message.TheConstants.{HEADER_BYTES}
use Rattle.ice_messages.specs.Defects.{Defect, At, Never, Lacks, Unfit, Or, Then, Times, InBound, SizeBreaks, TextBreaks, ClaimBreaks}
use Rattle.ice_messages.specs.Context.{Entry, context, value_of, with_entry}
use Rattle.ice_messages.specs.Calls.{mode, call}
use Rattle.ice_messages.specs.Messages.{header, body_by, is_count, count_of}

-- ---- a call

abbrev pub IdentityBreaks : Defect
IdentityBreaks = Then text TextBreaks (λ name. TextBreaks)

-- how many texts a facet has
abbrev pub facet_count : Part ℕ
facet_count = tested (λ n. nat_le n 1) BadFacet size

abbrev pub FacetBreaks : Defect
FacetBreaks = Then facet_count (Or SizeBreaks (Unfit size (λ n. 1 < n) BadFacet)) (Times text TextBreaks)

abbrev pub ModeBreaks : Defect
ModeBreaks = Or (Lacks 1) (Unfit byte (λ m. 2 < m) BadMode)

-- Of so many entries behind these: a name has the defect, or it is one of those before, or its value has it, or a later entry.
abbrev pub EntriesBreak : ℕ → List Entry → Defect
EntriesBreak zero before = Never
EntriesBreak (suc n) before = λ place bytes fault. TextBreaks place bytes fault
    ⊎ ((name : List ℕ) × (a rest : List ℕ) × (bytes ≡ a ++ rest) × SpellsText a name
    × ((IsSome (value_of before name) × At place EqualKey fault)
    ⊎ ((value_of before name ≡ None) × Then text TextBreaks (λ value. EntriesBreak n (with_entry before (name, value))) (place + length a) rest fault)))

abbrev pub ContextBreaks : Defect
ContextBreaks = Then size SizeBreaks (λ n. EntriesBreak n [])

-- its size has the defect, or counts what may not be
abbrev pub EncapsulationBreaks : Defect
EncapsulationBreaks = λ place bytes fault. Lacks 4 place bytes fault
    ⊎ ((z : ℤ) × (claim rest : List ℕ) × (bytes ≡ claim ++ rest) × SpellsSigned w32 claim z × ClaimBreaks (length bytes) SMALLEST z place fault)

abbrev pub CallBreaks : Defect
CallBreaks = Then identity IdentityBreaks (λ i. Then facet FacetBreaks (λ f. Then text TextBreaks (λ o. Then mode ModeBreaks (λ m.
    Then context ContextBreaks (λ c. EncapsulationBreaks)))))

-- ---- an answer

abbrev pub status : Part ℕ
status = tested (λ s. nat_le s 7) BadStatus byte

abbrev pub MissedBreaks : Defect
MissedBreaks = Then identity IdentityBreaks (λ i. Then facet FacetBreaks (λ f. TextBreaks))

-- by the status
abbrev pub AnswerByBreaks : ℕ → Defect
AnswerByBreaks zero = EncapsulationBreaks
AnswerByBreaks (suc zero) = EncapsulationBreaks
AnswerByBreaks (suc (suc zero)) = MissedBreaks
AnswerByBreaks (suc (suc (suc zero))) = MissedBreaks
AnswerByBreaks (suc (suc (suc (suc zero)))) = MissedBreaks
AnswerByBreaks (suc (suc (suc (suc (suc n))))) = TextBreaks

abbrev pub AnswerBreaks : Defect
AnswerBreaks = Then status (Or (Lacks 1) (Unfit byte (λ s. 7 < s) BadStatus)) AnswerByBreaks

-- ---- what follows the header, by the type

abbrev pub count : Part ℤ
count = tested is_count BadSize int

abbrev pub BodyBreaks : ℕ → Defect
BodyBreaks zero = Then int (Lacks 4) (λ id. CallBreaks)
BodyBreaks (suc zero) = Then count (Or (Lacks 4) (Unfit int (λ z. is_count z ≡ false) BadSize)) (λ z. Times call CallBreaks (count_of z))
BodyBreaks (suc (suc zero)) = Then int (Lacks 4) (λ id. AnswerBreaks)
BodyBreaks (suc (suc (suc zero))) = Never
BodyBreaks (suc (suc (suc (suc n)))) = Never

-- ---- a message, whose first byte has place 0

-- `IceP`, and the versions behind it: of the protocol, and of its encoding
abbrev pub magic_bytes : List ℕ
magic_bytes = 73 ∷ 99 ∷ 101 ∷ 80 ∷ []

abbrev pub version_bytes : List ℕ
version_bytes = 1 ∷ 0 ∷ []

-- the bytes begin as these do, up to a byte that is another one, before which so many stand
abbrev pub Differs : List ℕ → List ℕ → ℕ → Type 0
Differs bytes known n = (same : List ℕ) × (byte due : ℕ) × (more left : List ℕ) × (bytes ≡ same ++ byte ∷ more) × (known ≡ same ++ due ∷ left) × (byte ≢ due) × (n ≡ length same)

-- Each as soon as its byte is there, and that of a size as soon as its four bytes are.
pub data MessageBreaks (bytes : List ℕ) (fault : Fault) : Type 0 where
  bad_magic : (n : ℕ) → Differs bytes magic_bytes n → At n BadMagic fault → MessageBreaks bytes fault
  bad_protocol : (n : ℕ) (rest : List ℕ) → bytes ≡ magic_bytes ++ rest → Differs rest version_bytes n → At 4 BadVersion fault → MessageBreaks bytes fault
  bad_encoding : (n : ℕ) (rest : List ℕ) → bytes ≡ magic_bytes ++ (version_bytes ++ rest) → Differs rest version_bytes n → At 6 BadVersion fault → MessageBreaks bytes fault
  bad_type : (t : ℕ) (rest : List ℕ) → bytes ≡ magic_bytes ++ (version_bytes ++ (version_bytes ++ t ∷ rest)) → 4 < t → At 8 BadMessage fault → MessageBreaks bytes fault
  is_compressed : (t : ℕ) (rest : List ℕ) → bytes ≡ magic_bytes ++ (version_bytes ++ (version_bytes ++ t ∷ 2 ∷ rest)) → t ≤ 4 → At 9 Compressed fault → MessageBreaks bytes fault
  bad_compression : (t s : ℕ) (rest : List ℕ) → bytes ≡ magic_bytes ++ (version_bytes ++ (version_bytes ++ t ∷ s ∷ rest)) → t ≤ 4 → 2 < s → At 9 BadStatus fault → MessageBreaks bytes fault
  bad_size : (type : ℕ) (z : ℤ) (head rest : List ℕ) → bytes ≡ head ++ rest → header.Spells head (type, z) → ClaimBreaks LARGEST HEADER_BYTES z 10 fault → MessageBreaks bytes fault
  bad_body : (type n : ℕ) (head inside rest : List ℕ) → bytes ≡ head ++ (inside ++ rest) → header.Spells head (type, pos n) → HEADER_BYTES ≤ n → n ≤ LARGEST → n ≡ HEADER_BYTES + length inside
      → InBound (body_by type) (BodyBreaks type) HEADER_BYTES inside fault → MessageBreaks bytes fault
