-- The shares that passes have.
use Rattle.std.specs.Prelude.{◌≡◌, ℕ, zero, suc, ◌+◌, List, [], ◌∷◌}
use Rattle.turnstile.specs.declared.turned.Turned.{Ghosts}
use Rattle.turnstile.specs.declared.passes.Pass.{Pass}
use Rattle.turnstile.specs.Passes.{parts}
use Rattle.ice_messages.specs.declared.message.Call.{Call}
use Rattle.ice_messages.specs.declared.message.Answer.{Answer}
use Rattle.dispatch_pool.specs.declared.object.Object.{Object}
use Rattle.dispatch_pool.specs.declared.lanes.LanePasses.{LanePasses}

module _ {g : Ghosts Object Call Answer} where
  -- where the whole has k parts, the pass at this place has so many
  abbrev pub row_parts : List (Pass Object Call Answer g) → ℕ → ℕ → ℕ
  row_parts [] i k = 0
  row_parts (p ∷ ps) zero k = parts p k
  row_parts (p ∷ ps) (suc i) k = row_parts ps i k

abbrev pub parts_at : LanePasses → ℕ → ℕ → ℕ
parts_at passes i k = row_parts passes.passes.items i k

-- of each object the same share
abbrev pub SameShares : LanePasses → LanePasses → Type 0
SameShares old new = (i k : ℕ) → parts_at new i k ≡ parts_at old i k

-- what the passes of all these have together
abbrev pub all_parts : {A : Type 0} → List A → (A → LanePasses) → ℕ → ℕ → ℕ
all_parts [] passes i k = 0
all_parts (x ∷ xs) passes i k = parts_at (passes x) i k + all_parts xs passes i k
