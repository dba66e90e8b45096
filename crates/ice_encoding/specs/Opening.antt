-- An encapsulation: a size that counts all of it, the version 1.1, and a content. (Ice manual, "Basic Data Encoding", "Encapsulations".)
use Rattle.std.specs.Prelude.{ℕ, pos, ◌≡◌, ◌+◌, ◌-◌, List, [], ◌∷◌, ◌++◌, length, Result, Ok}
use Rattle.std.specs.Int.{w32}
use Rattle.ice_prims.specs.declared.fault.Fault.{Fault}
use Rattle.ice_prims.specs.declared.fault.Kind.TheVariants.{BadVersion}
use Rattle.ice_prims.specs.Rest.{Rest, ◌>>=◌, bound_at}
use Rattle.ice_prims.specs.Number.{signed_at}
use Rattle.ice_prims.specs.Bytes.{signed_bytes}
use Rattle.ice_encoding.specs.declared.limits.TheConstants.{SIZE_BYTES, SMALLEST}
use Rattle.ice_encoding.specs.Parts.{Part, exactly}
use Rattle.ice_encoding.specs.Bounds.{Content, enclosed, claimed}

-- the version of the encoding, which is one part
abbrev pub encoding : Part (Unit {0})
encoding = exactly (1 ∷ 1 ∷ []) BadVersion

-- a content behind its version
abbrev pub versioned : {A : Type 0} → Content A → Content A
versioned {A} content = record {
  read = λ r. encoding.read r >>= λ v. content.read v.1;
  Spells = λ bytes x. (inside : List ℕ) × (bytes ≡ 1 ∷ 1 ∷ inside) × content.Spells inside x;
  put = λ x. 1 ∷ 1 ∷ content.put x;
  Is = content.Is;
}

-- an encapsulation of this content
abbrev pub encapsulated : {A : Type 0} → Content A → Part A
encapsulated content = enclosed (versioned content)

-- ---- in parts, as it is read

-- what an encapsulation that begins here holds, as a bound of its own, and what follows it
abbrev pub opened_at : Rest → Result (Rest × Rest) Fault
opened_at r = do
  claim ← signed_at w32 r
  n ← claimed r.place (length r.bytes) SMALLEST claim.0
  bound ← bound_at (n - SIZE_BYTES) claim.1
  version ← encoding.read bound.0
  Ok (version.1, bound.1)

-- the encapsulation that holds these bytes
abbrev pub encapsulated_bytes : List ℕ → List ℕ
encapsulated_bytes content = signed_bytes w32 (pos (SMALLEST + length content)) ++ 1 ∷ 1 ∷ content
