-- What the calls that read answer where they pause, since an instance begins.
use Rattle.std.specs.Prelude.{◌≡◌, Option, None, Some, Result, Ok, Err}
use Rattle.ice_prims.specs.declared.fault.Fault.{Fault}
use Rattle.ice_prims.specs.declared.fault.ReadFault.{ReadFault}
use Rattle.ice_prims.specs.Rest.{Rest, ◌>>=◌}
use Rattle.ice_prims.specs.Taking.{Fails}
use Rattle.ice_encoding.specs.Port.{Reader}
use Rattle.ice_encoding.specs.Pausing.{Inside}
use Rattle.value_parts.specs.declared.paused.Paused.{Paused}
use Rattle.value_parts.specs.declared.paused.Paused.TheVariants as pauses
use Rattle.value_parts.specs.declared.paused.Step.{Step}
use Rattle.value_parts.specs.declared.paused.Step.TheVariants as steps

-- What was to be read is what is answered, seen as its meaning; or it is the instance that begins, and then what is now to be
-- read; or it is the fault.
abbrev pub GoesOnReading : {S A T : Type 0} → Inside S → Reader S A → (T → A) → Result (Paused T) ReadFault → Result (A × S × Rest) Fault → S → Rest → Type 0
GoesOnReading inside now seen (Ok (pauses.Done x)) read s r = read ≡ Ok (seen x, s, r)
GoesOnReading inside now seen (Ok (pauses.Begins n)) read s r = read ≡ (inside n s r >>= λ x. now x.0 x.1)
GoesOnReading inside now seen (Err e) read s r = Fails e read

-- Nothing is left to read, and this is what was read, seen as its meaning; or it is not said.
abbrev pub EndsReading : {S A T : Type 0} → Reader S A → (T → A) → Option T → Type 0
EndsReading {S} left seen (Some x) = (s : S) (r : Rest) → left s r ≡ Ok (seen x, s, r)
EndsReading left seen None = Unit {0}

-- nothing was taken, and it is as it was
abbrev pub StaysUnless : {T X : Type 0} → X → X → Option T → Type 0
StaysUnless old new (Some x) = Unit {0}
StaysUnless old new None = new ≡ old

-- the same of one step, behind which it may also be what is now to be read
abbrev pub StepsReading : {S A T : Type 0} → Inside S → Reader S A → (T → A) → Result (Step T) ReadFault → Result (A × S × Rest) Fault → S → Rest → Type 0
StepsReading inside now seen (Ok steps.On) read s r = read ≡ now s r
StepsReading inside now seen (Ok (steps.Done x)) read s r = read ≡ Ok (seen x, s, r)
StepsReading inside now seen (Ok (steps.Begins n)) read s r = read ≡ (inside n s r >>= λ x. now x.0 x.1)
StepsReading inside now seen (Err e) read s r = Fails e read
