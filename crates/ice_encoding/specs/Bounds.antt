-- A size that counts what it stands before, itself among it, and what fills that bound. (Ice manual, "Basic Data Encoding", "Encapsulations".)
use Rattle.std.specs.Prelude.{ℕ, ℤ, pos, negsuc, ◌≡◌, ◌≤◌, ◌+◌, ◌-◌, List, [], ◌∷◌, ◌++◌, length, Result, Ok, nat_lt, if◌then◌else◌}
use Rattle.std.specs.Int.{w32}
use Rattle.ice_prims.specs.declared.fault.Fault.{Fault}
use Rattle.ice_prims.specs.declared.fault.Kind.TheVariants.{Short, TooLarge, BadSize, LeftOver}
use Rattle.ice_prims.specs.Rest.{Rest, fault, ◌>>=◌, bound_at, IsBytes}
use Rattle.ice_prims.specs.Number.{signed_at, SpellsSigned}
use Rattle.ice_prims.specs.Bytes.{signed_bytes}
use Rattle.ice_encoding.specs.declared.limits.TheConstants.{LARGEST, SIZE_BYTES, SMALLEST}
use Rattle.ice_encoding.specs.Parts.{Part}

-- A size that counts from this place on, where so many bytes are left and there is no smaller one.
abbrev pub claimed : ℕ → ℕ → ℕ → ℤ → Result ℕ Fault
claimed place left smallest (pos n) =
    if nat_lt LARGEST n then fault place TooLarge
    else (if nat_lt left n then fault place Short
    else (if nat_lt n smallest then fault place BadSize else Ok n))
claimed place left smallest (negsuc n) = fault place BadSize

-- the end of a bound
abbrev pub ended : {A : Type 0} → List ℕ → ℕ → A → Result A Fault
ended [] place x = Ok x
ended (left ∷ others) place x = fault place LeftOver

-- a part that fills its bound
abbrev pub filled : {A : Type 0} → (Rest → Result (A × Rest) Fault) → Rest → Result A Fault
filled read r = read r >>= λ x. ended x.1.bytes x.1.place x.0

-- ---- what fills a bound

-- what fills a bound, with the same four sides as a part
pub record Content (A : Type 0) : Type 1 where
  -- reading all bytes of the bound, with the first fault
  pub read : Rest → Result A Fault
  -- the bytes that spell it
  pub Spells : List ℕ → A → Type 0
  -- the bytes that are put for it
  pub put : A → List ℕ
  -- which there are
  pub Is : A → Type 0

-- a part, and nothing after it
abbrev pub filling : {A : Type 0} → Part A → Content A
filling part = record { read = filled part.read; Spells = part.Spells; put = part.put; Is = part.Is }

-- What is read is spelled by all bytes of the bound, and what they spell is read; what is put spells it, and no spelling is shorter.
pub record IsLawfulContent {A : Type 0} (content : Content A) : Type 0 where
  pub found : (r : Rest) (x : A) → IsBytes r.bytes → content.read r ≡ Ok x → content.Spells r.bytes x
  pub only : (r : Rest) (x : A) → content.Spells r.bytes x → content.read r ≡ Ok x
  pub sort : (bytes : List ℕ) (x : A) → IsBytes bytes → content.Spells bytes x → content.Is x
  pub put : (x : A) → content.Is x → content.Spells (content.put x) x
  pub shortest : (bytes : List ℕ) (x : A) → IsBytes bytes → content.Spells bytes x → length (content.put x) ≤ length bytes

-- ---- behind its size

-- how many bytes there are, with the size
abbrev pub size_with : {A : Type 0} → Content A → A → ℕ
size_with content x = SIZE_BYTES + length (content.put x)

-- A size that counts all of it, and the content; from that of an encapsulation without content to the largest. What is written
-- may be above that, up to the size given.
abbrev pub enclosed_to : {A : Type 0} → ℕ → Content A → Part A
enclosed_to {A} most content = record {
  read = λ r. signed_at w32 r >>= λ claim. claimed r.place (length r.bytes) SMALLEST claim.0 >>= λ n.
      bound_at (n - SIZE_BYTES) claim.1 >>= λ bound. content.read bound.0 >>= λ x. Ok (x, bound.1);
  Spells = λ bytes x. (claim inside : List ℕ) × (bytes ≡ claim ++ inside) × SpellsSigned w32 claim (pos (length bytes))
      × (SMALLEST ≤ length bytes) × (length bytes ≤ LARGEST) × content.Spells inside x;
  put = λ x. signed_bytes w32 (pos (size_with content x)) ++ content.put x;
  Is = λ x. content.Is x × (SMALLEST ≤ size_with content x) × (size_with content x ≤ most);
}

-- of which each can be read again
abbrev pub enclosed : {A : Type 0} → Content A → Part A
enclosed content = enclosed_to LARGEST content
