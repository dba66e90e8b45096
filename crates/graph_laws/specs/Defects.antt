-- What is wrong with bytes in which something does not stand: the first defect from the left, at the place of the part that has it.
use Rattle.std.specs.Prelude.{ℕ, ℤ, pos, negsuc, zero, suc, ◌≡◌, ◌<◌, ◌≤◌, ◌+◌, ◌^◌, ◌⊎◌, List, ◌∷◌, ◌++◌, length}
use Rattle.std.specs.Str.{IsUtf8}
use Rattle.std.specs.Int.{w32, from_le_bytes}
use Rattle.ice_prims.specs.declared.fault.Fault.{Fault}
use Rattle.ice_prims.specs.declared.fault.Kind.{Kind}
use Rattle.ice_prims.specs.declared.fault.Kind.TheVariants.{Short, TooLarge, BadSize, BadText, LeftOver}
use Rattle.ice_prims.specs.Number.{SpellsSigned}
use Rattle.ice_encoding.specs.declared.limits.TheConstants.{LARGEST, SIZE_BYTES, SMALLEST}
use Rattle.ice_encoding.specs.Parts.{Part, size}
use Rattle.ice_encoding.specs.Port.{Speller}

-- what is wrong with bytes, the first of which has this place
abbrev pub Defect : Type 1
Defect = ℕ → List ℕ → Fault → Type 0

-- it is of this kind, at this place
abbrev pub At : ℕ → Kind → Fault → Type 0
At place kind fault = fault ≡ record { place = place; kind = kind }

-- nothing can be wrong
abbrev pub Never : Defect
Never = λ place bytes fault. ⊥

-- fewer bytes are left than the part has
abbrev pub Lacks : ℕ → Defect
Lacks n = λ place bytes fault. (length bytes < n) × At place Short fault

-- the part stands, and is one that may not stand
abbrev pub Unfit : {A : Type 0} → Part A → (A → Type 0) → Kind → Defect
Unfit {A} part IsOff kind = λ place bytes fault. (x : A) × (a rest : List ℕ) × (bytes ≡ a ++ rest) × part.Spells a x × IsOff x × At place kind fault

-- one or the other
abbrev pub Or : Defect → Defect → Defect
Or One Other = λ place bytes fault. One place bytes fault ⊎ Other place bytes fault

-- the part has the defect; or it stands, and what follows has it
abbrev pub Then : {A : Type 0} → Part A → Defect → (A → Defect) → Defect
Then {A} part First Next = λ place bytes fault. First place bytes fault
    ⊎ ((x : A) × (a rest : List ℕ) × (bytes ≡ a ++ rest) × part.Spells a x × Next x (place + length a) rest fault)

-- one of so many, those before which stand
abbrev pub Times : {A : Type 0} → Part A → Defect → ℕ → Defect
Times part One zero = Never
Times part One (suc n) = Then part One (λ x. Times part One n)

-- of what has to fill the bytes: it has the defect, or bytes are left behind it
abbrev pub InBound : {A : Type 0} → (List ℕ → A → Type 0) → Defect → Defect
InBound {A} Spells One = λ place bytes fault. One place bytes fault
    ⊎ ((x : A) × (a : List ℕ) × (byte : ℕ) × (left : List ℕ) × (bytes ≡ a ++ byte ∷ left) × Spells a x × At (place + length a) LeftOver fault)

-- The same of what changes a state: it has the defect; or it stands, and what follows has it, from the state to which it leads.
abbrev pub Followed : {S A : Type 0} → Speller S A → (S → Defect) → (A → S → Defect) → S → Defect
Followed {S} {A} Spells First Next = λ from place bytes fault. First from place bytes fault
    ⊎ ((x : A) × (mid : S) × (a rest : List ℕ) × (bytes ≡ a ++ rest) × Spells a x from mid × Next x mid (place + length a) rest fault)

-- ---- sizes and texts

-- a number that has the short form, or is negative
abbrev pub IsOffSize : ℕ → Type 0
IsOffSize n = (n < 255) ⊎ (2 ^ 31 ≤ n)

-- behind the 255 of the long form: four bytes lack, or are a number that may not stand there
abbrev pub LongBreaks : Defect
LongBreaks = λ place behind fault. Lacks 4 place behind fault
    ⊎ ((four rest : List ℕ) × (behind ≡ four ++ rest) × (length four ≡ 4) × IsOffSize (from_le_bytes w32 four) × At place BadSize fault)

-- a size is one part
abbrev pub SizeBreaks : Defect
SizeBreaks = λ place bytes fault. Lacks 1 place bytes fault ⊎ ((behind : List ℕ) × (bytes ≡ 255 ∷ behind) × LongBreaks place behind fault)

-- so many bytes of a text, which are a part of their own
abbrev pub LettersBreak : ℕ → Defect
LettersBreak n = λ place bytes fault. Lacks n place bytes fault
    ⊎ ((s rest : List ℕ) × (bytes ≡ s ++ rest) × (length s ≡ n) × ¬ IsUtf8 s × At place BadText fault)

abbrev pub TextBreaks : Defect
TextBreaks = Then size SizeBreaks LettersBreak

-- ---- a size that counts what it stands before

-- Of one that counts from this place on, where so many bytes are left and there is no smaller one.
abbrev pub ClaimBreaks : ℕ → ℕ → ℤ → ℕ → Fault → Type 0
ClaimBreaks left smallest (pos n) place fault = ((LARGEST < n) × At place TooLarge fault)
    ⊎ (((n ≤ LARGEST) × (left < n) × At place Short fault) ⊎ ((n ≤ LARGEST) × (n ≤ left) × (n < smallest) × At place BadSize fault))
ClaimBreaks left smallest (negsuc n) place fault = At place BadSize fault

-- The same with what it counts: it is cut short, or counts what may not be; or what stands in its bound has the defect.
abbrev pub EnclosedBreaks : Defect → Defect
EnclosedBreaks Inside = λ place bytes fault. Lacks SIZE_BYTES place bytes fault
    ⊎ (((z : ℤ) × (claim rest : List ℕ) × (bytes ≡ claim ++ rest) × SpellsSigned w32 claim z × ClaimBreaks (length bytes) SMALLEST z place fault)
    ⊎ ((n : ℕ) × (claim inside rest : List ℕ) × (bytes ≡ claim ++ (inside ++ rest)) × SpellsSigned w32 claim (pos n) × (SMALLEST ≤ n) × (n ≤ LARGEST)
    × (n ≡ SIZE_BYTES + length inside) × Inside (place + SIZE_BYTES) inside fault))
