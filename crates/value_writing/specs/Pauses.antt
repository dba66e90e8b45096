-- What the calls that write answer where they pause, since an instance begins.
use Rattle.std.specs.Prelude.{◌≡◌, Result, Ok, Err}
use Rattle.std.specs.declared.alloc.AllocError.{AllocError}
use Rattle.value_parts.specs.declared.paused.Paused.{Paused}
use Rattle.value_parts.specs.declared.paused.Paused.TheVariants as pauses
use Rattle.value_parts.specs.declared.paused.Step.{Step}
use Rattle.value_parts.specs.declared.paused.Step.TheVariants as steps
use Rattle.value_writing.specs.Putting.{InsideWritten, Written, onto}

-- What was to be written has been; or it is what stands now, and then the instance that begins, and then what is now to be
-- written.
abbrev pub GoesOnWriting : {S T : Type 0} → InsideWritten S → (Written S → Written S) → Result (Paused T) AllocError → Written S → Written S → Type 0
GoesOnWriting {S} inside now (Ok (pauses.Done x)) all w = all ≡ w
GoesOnWriting {S} inside now (Ok (pauses.Begins n)) all w = all ≡ now (onto (inside n) w)
GoesOnWriting {S} inside now (Err e) all w = Unit {0}

-- the same of one step, behind which it may also be what is now to be written
abbrev pub StepsWriting : {S T : Type 0} → InsideWritten S → (Written S → Written S) → Result (Step T) AllocError → Written S → Written S → Type 0
StepsWriting {S} inside now (Ok steps.On) all w = all ≡ now w
StepsWriting {S} inside now (Ok (steps.Done x)) all w = all ≡ w
StepsWriting {S} inside now (Ok (steps.Begins n)) all w = all ≡ now (onto (inside n) w)
StepsWriting {S} inside now (Err e) all w = Unit {0}
