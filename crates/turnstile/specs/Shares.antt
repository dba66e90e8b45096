-- Shares of a turnstile: a split cuts them, and a join adds them.
-- How many parts the whole has is left open. Whatever the number is, a share has so many of them, and each piece of it
-- can be halved again.
use Rattle.std.specs.Prelude.{ℕ, ◌+◌, ◌-◌, ◌/◌, Bool, true, false, List, [], ◌∷◌}

-- the larger half of n parts, or the smaller one
abbrev pub half : Bool → ℕ → ℕ
half true n = n - n / 2
half false n = n / 2

-- where the whole has k parts, the piece has so many: it is the half of the half, and so on, the last cut first
abbrev pub piece : List Bool → ℕ → ℕ
piece [] k = k
piece (larger ∷ cuts) k = half larger (piece cuts k)

-- where the whole has k parts, the share has so many
abbrev pub parts_of : List (List Bool) → ℕ → ℕ
parts_of [] k = 0
parts_of (p ∷ ps) k = piece p k + parts_of ps k

-- one half of each piece
abbrev pub halved : Bool → List (List Bool) → List (List Bool)
halved larger [] = []
halved larger (p ∷ ps) = (larger ∷ p) ∷ halved larger ps
