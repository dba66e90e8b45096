-- That work ends which pauses where an instance begins.
use Rattle.std.specs.Prelude.{ℕ, ◌<◌, ◌≤◌, Result, Ok, Err}
use Rattle.value_parts.specs.declared.paused.Paused.{Paused}
use Rattle.value_parts.specs.declared.paused.Paused.TheVariants as pauses
use Rattle.value_parts.specs.declared.paused.Step.{Step}
use Rattle.value_parts.specs.declared.paused.Step.TheVariants as steps

-- fewer instances may begin where one has just begun, and no more in any case
abbrev pub NarrowsOnPause : {T E : Type 0} → Result (Paused T) E → ℕ → ℕ → Type 0
NarrowsOnPause (Ok (pauses.Done x)) before after = after ≤ before
NarrowsOnPause (Ok (pauses.Begins n)) before after = after < before
NarrowsOnPause (Err e) before after = Unit {0}

-- the same of one step
abbrev pub NarrowsOnStep : {T E : Type 0} → Result (Step T) E → ℕ → ℕ → Type 0
NarrowsOnStep (Ok steps.On) before after = after ≤ before
NarrowsOnStep (Ok (steps.Done x)) before after = after ≤ before
NarrowsOnStep (Ok (steps.Begins n)) before after = after < before
NarrowsOnStep (Err e) before after = Unit {0}

-- where there is more to do, it is less than before
abbrev pub LessOnStep : {T E : Type 0} → Result (Step T) E → ℕ → ℕ → Type 0
LessOnStep (Ok steps.On) before after = after < before
LessOnStep (Ok (steps.Done x)) before after = Unit {0}
LessOnStep (Ok (steps.Begins n)) before after = Unit {0}
LessOnStep (Err e) before after = Unit {0}
