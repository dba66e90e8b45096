-- What is read of an input that is a text.
use Rattle.std.specs.Prelude.{ℕ, suc, ◌≡◌, ◌≤◌, ◌⊎◌, List, length, Option}
use Rattle.std.specs.Io.KnownBytes.{Consumes, IsAtEnd}
use Rattle.graph_json.specs.declared.text.TheConstants.{MOST_TEXT}

-- the whole input, or one byte more than a text may have
abbrev pub ReadsText : Option (List ℕ) → Option (List ℕ) → List ℕ → Type 0
ReadsText old_left new_left got =
    Consumes old_left new_left got × (length got ≤ suc MOST_TEXT) × ((length got ≡ suc MOST_TEXT) ⊎ IsAtEnd new_left)

-- that much and no more was taken
abbrev pub TakesText : Option (List ℕ) → Option (List ℕ) → Type 0
TakesText old new = (got : List ℕ) × Consumes old new got × (length got ≤ suc MOST_TEXT)
