-- What the program promises of a call: that an answer comes, for its cause and with its effects.
use Rattle.std.specs.Prelude.{ℕ, ◌≡◌, ◌⊎◌, List, Option}
use Rattle.node_commands.specs.Words.{Word, Command, Asks}
use Rattle.node_commands.specs.Outside.{Outside}
use Rattle.node_commands.specs.Answers.{Answer, status}
use Rattle.node_commands.specs.Causes.{Causes}
use Rattle.node_commands.specs.Effects.{Takes, Outputs, GetsLine}

-- The words ask for this command or none, this answer comes for its cause, its status is returned,
-- and the input, the sink and the sink of errors are as it says.
pub record Answered (words : List Word) (before after : Outside) (result : ℕ) (answer : Answer)
    : Type 0 where
  pub asked : Option Command
  pub asks : Asks words asked
  pub cause : Causes asked before.files before.input before.failures after.failures answer
  pub returned : result ≡ status answer
  pub input : Takes asked before.input after.input answer
  pub output : Outputs before.output after.output answer
  pub line : GetsLine before.errors after.errors before.error_failures after.error_failures answer

-- a read or a write failed, or memory ran out
abbrev pub IsFailure : ℕ → Type 0
IsFailure result = (result ≡ 5) ⊎ ((result ≡ 6) ⊎ (result ≡ 9))

-- this answer came, unless one of these did
abbrev pub EndsWithStatus : List Word → (before after : Outside) → ℕ → Answer → Type 0
EndsWithStatus words before after result answer =
    Answered words before after result answer ⊎ IsFailure result
