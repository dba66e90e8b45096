-- The outside of the program, as contracts see it at one moment.
use Rattle.std.specs.Prelude.{ℕ, ◌≡◌, List, Option}
use Rattle.ice_ports.specs.Failures.{one_more}

-- names and contents, in order
abbrev pub Files : Type 0
Files = List (List ℕ × List ℕ)

-- how many calls of each object failed
pub record Failures : Type 0 where
  pub shelf : ℕ
  pub source : ℕ
  pub sink : ℕ

-- What the objects hold, where they tell it, and how many of their calls failed.
pub record Outside : Type 0 where
  -- the shelf's
  pub files : Option Files
  -- what the source has left
  pub input : Option (List ℕ)
  -- what the sink has taken
  pub output : Option (List ℕ)
  -- what the sink of errors has taken
  pub errors : Option (List ℕ)
  pub failures : Failures
  -- those of the sink of errors
  pub error_failures : ℕ

-- the counts of the shelf, the source and the sink
abbrev pub counts : ℕ → ℕ → ℕ → Failures
counts shelf source sink = record { shelf = shelf; source = source; sink = sink }

-- what they hold, how many calls failed, and how many of the sink of errors
abbrev pub outside : Option Files → (input output errors : Option (List ℕ)) → Failures → ℕ → Outside
outside files input output errors failures error_failures = record {
  files = files;
  input = input;
  output = output;
  errors = errors;
  failures = failures;
  error_failures = error_failures;
}

-- ---- what failed between two moments: one call at most

-- between two moments no call failed
abbrev pub NoneFailed : Failures → Failures → Type 0
NoneFailed before after = (after.shelf ≡ before.shelf)
    × (after.source ≡ before.source) × (after.sink ≡ before.sink)

-- the shelf failed, once, and none of the others; so below of the source and the sink
abbrev pub ShelfFailed : Failures → Failures → Type 0
ShelfFailed before after = (after.shelf ≡ one_more before.shelf)
    × (after.source ≡ before.source) × (after.sink ≡ before.sink)

abbrev pub SourceFailed : Failures → Failures → Type 0
SourceFailed before after = (after.shelf ≡ before.shelf)
    × (after.source ≡ one_more before.source) × (after.sink ≡ before.sink)

abbrev pub SinkFailed : Failures → Failures → Type 0
SinkFailed before after = (after.shelf ≡ before.shelf)
    × (after.source ≡ before.source) × (after.sink ≡ one_more before.sink)
