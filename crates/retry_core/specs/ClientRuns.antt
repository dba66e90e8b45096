-- What a client makes of every list of events. (Ice manual, "Automatic Retries".)
use Rattle.std.specs.Prelude.{◌≡◌, ℕ, ◌+◌, ◌<◌, ◌≤◌, Bool, true, List, [], ◌∷◌, Some, slice_get, length}
use Rattle.retry_core.specs.declared.attempt.Attempt.{Attempt}
use Rattle.retry_core.specs.declared.attempt.Attempt.TheVariants.{Lost}
use Rattle.retry_core.specs.declared.client_table.ClientEvent.{ClientEvent}
use Rattle.retry_core.specs.declared.client_table.ClientState.TheVariants.{Finished}
use Rattle.retry_core.specs.Retries.{may_follow}
use Rattle.retry_core.specs.Client.{Invoking, began, row_of, MayCome, next_of, running}

-- the events, each of which can come, lead one after the other from i to j
abbrev pub ClientRun : Invoking → List ClientEvent → Invoking → Type 0
ClientRun i [] j = i ≡ j
ClientRun i (event ∷ events) j = MayCome i event × ClientRun (next_of i (row_of i event)) events j

-- attempt number n was followed by another, or another is under way
abbrev pub IsFollowed : Invoking → ℕ → Type 0
IsFollowed i n = n + 1 < length i.attempts + running i.state

-- a client that began with so many retries keeps to them
pub record KeepsTo (retries : ℕ) (i : Invoking) : Type 0 where
  -- the one under way counts
  pub at_most : length i.attempts + running i.state ≤ retries + 1
  -- each that was followed is one that may be
  pub followed : (n : ℕ) (a : Attempt) → slice_get i.attempts n ≡ Some a → IsFollowed i n → may_follow i.idempotent a ≡ true
  -- one that was lost after it was sent whole is followed only where the message is idempotent
  pub lost : (n : ℕ) → slice_get i.attempts n ≡ Some Lost → IsFollowed i n → i.idempotent ≡ true
  -- one that may be followed is the last only with no retry left
  pub given_up :
      i.state ≡ Finished → (n : ℕ) (a : Attempt) → slice_get i.attempts n ≡ Some a → n + 1 ≡ length i.attempts
      → may_follow i.idempotent a ≡ true → length i.attempts ≡ retries + 1

-- so it is whatever came
abbrev pub ClientsKeepToTheirRetries : Type 0
ClientsKeepToTheirRetries =
    (idempotent replies : Bool) (size retries : ℕ) (events : List ClientEvent) (i : Invoking)
    → ClientRun (began idempotent replies size retries) events i → KeepsTo retries i
