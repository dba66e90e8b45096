-- An encapsulation whose size is put when all else is. (Ice manual, "Basic Data Encoding", "Encapsulations".)
use Rattle.std.specs.Prelude.{ℕ, ◌≡◌, ◌<◌, ◌≤◌, List, ◌∷◌, length, Result, Ok, Err, Vec}
use Rattle.std.specs.declared.alloc.Global.{Global}
use Rattle.ice_encoding.specs.Opening.{encapsulated_bytes}

-- the place of the size, the version, and the content
abbrev pub unsized : List ℕ → List ℕ
unsized content = 0 ∷ 0 ∷ 0 ∷ 0 ∷ 1 ∷ 1 ∷ content

-- of such bytes, the encapsulation of the content where it is not longer than the limit, else its length
abbrev pub Closes : List ℕ → ℕ → Result (Vec ℕ Global) ℕ → Type 0
Closes bytes limit (Ok out) = (content : List ℕ) → bytes ≡ unsized content → (out.items ≡ encapsulated_bytes content) × (length out.items ≤ limit)
Closes bytes limit (Err n) = (content : List ℕ) → bytes ≡ unsized content → (n ≡ length (encapsulated_bytes content)) × (limit < n)
