-- What is read of an input before it is decided. An encapsulation begins with its size. (Ice manual, "Basic Data Encoding", "Encapsulations".)
use Rattle.std.specs.Prelude.{ℕ, ℤ, pos, ◌+◌, ◌<◌, ◌≤◌, ◌≡◌, ◌⊎◌, List, ◌++◌, length, drop, Option, None, Some}
use Rattle.std.specs.Int.{w32}
use Rattle.std.specs.Io.KnownBytes.{Consumes, IsAtEnd}
use Rattle.ice_prims.specs.Number.{SpellsSigned}
use Rattle.ice_encoding.specs.declared.limits.TheConstants.{LARGEST, SIZE_BYTES}

-- Bytes were read after those that were there, up to so many in all or the end of the input.
pub record ReadsUpTo (goal : ℕ) (old_left new_left : Option (List ℕ)) (old new : List ℕ)
    : Type 0 where
  pub more : List ℕ
  pub parts : new ≡ old ++ more
  pub within : length new ≤ goal
  pub consumed : Consumes old_left new_left more
  pub enough : (length new ≡ goal) ⊎ IsAtEnd new_left

-- so many bytes in all, at most, were taken, where these were there
pub record TakesUpTo (goal : ℕ) (old_left new_left : Option (List ℕ)) (old : List ℕ) : Type 0 where
  pub more : List ℕ
  pub within : length old + length more ≤ goal
  pub consumed : Consumes old_left new_left more

-- the first four bytes claim this number as the size of an encapsulation
pub record Claims (got : List ℕ) (z : ℤ) : Type 0 where
  pub size : List ℕ
  pub more : List ℕ
  pub parts : got ≡ size ++ more
  pub spelled : SpellsSigned w32 size z

-- So many bytes are claimed: more than the size itself has, and at most the greatest encapsulation.
-- Every other claim is refused by the size alone, in the same way whatever follows it.
abbrev pub GoesOn : ℤ → ℕ → Type 0
GoesOn z n = (z ≡ pos n) × (SIZE_BYTES < n) × (n ≤ LARGEST)

-- what a look at no more bytes than a size has tells of how far the input that begins with them goes on
abbrev pub ClaimsMore : List ℕ → Option ℕ → Type 0
ClaimsMore got (Some n) = (z : ℤ) × Claims got z × GoesOn z n × (length got ≡ SIZE_BYTES)
ClaimsMore got None =
    (length got < SIZE_BYTES) ⊎ ((z : ℤ) × Claims got z × ((n : ℕ) → GoesOn z n → ⊥))

-- Whatever follows the bytes, the first fault is one of these: their size is refused by itself, or
-- they pass the encapsulation that it claims.
abbrev pub IsDecided : List ℕ → Type 0
IsDecided got = (z : ℤ) × Claims got z × ((n : ℕ) → GoesOn z n → n < length got)

-- at most the encapsulation that the bytes claim, and one byte more
abbrev pub IsFrugal : List ℕ → Type 0
IsFrugal got = (length got ≤ SIZE_BYTES)
    ⊎ ((z : ℤ) × (n : ℕ) × Claims got z × GoesOn z n × (length got ≤ n + 1))

-- that much and no more was taken
abbrev pub TakesFrugally : Option (List ℕ) → Option (List ℕ) → Type 0
TakesFrugally old new = (got : List ℕ) × Consumes old new got × IsFrugal got

-- What was read is the whole input, or has its first fault whatever follows.
abbrev pub ReadsInput : Option (List ℕ) → Option (List ℕ) → List ℕ → Type 0
ReadsInput old_left new_left got =
    Consumes old_left new_left got × (IsAtEnd new_left ⊎ IsDecided got) × IsFrugal got

-- ---- two encapsulations, one after the other

-- the size that the first four bytes claim is refused by itself
abbrev pub IsRefused : List ℕ → Type 0
IsRefused got = (z : ℤ) × Claims got z × ((n : ℕ) → GoesOn z n → ⊥)

-- the bytes begin with an encapsulation of so many, by the size that they claim
abbrev pub BeginsWith : List ℕ → ℕ → Type 0
BeginsWith got n = (z : ℤ) × Claims got z × GoesOn z n

-- Whatever follows the bytes, the first fault is one of these: the first size is refused by itself, or so is
-- the second, or they pass the second encapsulation.
abbrev pub AreDecided : List ℕ → Type 0
AreDecided got = IsRefused got ⊎ ((n : ℕ) × BeginsWith got n × IsDecided (drop n got))

-- at most the first encapsulation that the bytes claim, and then the second and one byte more
abbrev pub AreFrugal : List ℕ → Type 0
AreFrugal got = (length got ≤ SIZE_BYTES) ⊎ ((n : ℕ) × BeginsWith got n × IsFrugal (drop n got))

-- that much and no more was taken
abbrev pub TakesTwoFrugally : Option (List ℕ) → Option (List ℕ) → Type 0
TakesTwoFrugally old new = (got : List ℕ) × Consumes old new got × AreFrugal got

-- What was read is the whole input, or has its first fault whatever follows.
abbrev pub ReadsTwo : Option (List ℕ) → Option (List ℕ) → List ℕ → Type 0
ReadsTwo old_left new_left got =
    Consumes old_left new_left got × (IsAtEnd new_left ⊎ AreDecided got) × AreFrugal got
