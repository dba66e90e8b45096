-- The laws of calls, each over every list of events.
use Rattle.std.specs.Prelude.{◌≡◌, ◌≤◌, ℕ, Some, false, List, Option}
use Rattle.call_world.specs.Service.{Rules}
use Rattle.call_world.specs.World.{World, Invocation, Place, Replied}
use Rattle.call_world.specs.Dead.{IsDead}
use Rattle.call_world.specs.Step.{Event, Run, IsReached}
use Rattle.call_world.specs.Counts.{count, IsRecorded, IsUntouched}

-- so is each world that is reached, whatever the objects were at first
abbrev pub Always : {C R O : Type 0} → Rules C R O → (World C R O → Type 0) → Type 0
Always {C} {R} {O} rules IsSo = (objects : O) (w : World C R O) → IsReached rules objects w → IsSo w

-- each invocation that is not idempotent was dispatched at most once
abbrev pub AtMostOnce : {C R O : Type 0} → World C R O → Type 0
AtMostOnce {C} {R} w =
    (i : ℕ) (v : Invocation C R) → w.invocations i ≡ Some v → v.idempotent ≡ false → count w i ≤ 1

-- each finished success carries the reply that a dispatch of the invocation recorded
abbrev pub OwnReplies : {C R O : Type 0} → (R → ℕ) → World C R O → Type 0
OwnReplies {C} {R} status w =
    (i : ℕ) (v : Invocation C R) (r : R) → w.invocations i ≡ Some v → v.result ≡ Some (Replied r)
    → status r ≡ 0 → IsRecorded w i r

-- no dead attempt was dispatched, and none is in any world that events lead to from here
abbrev pub DeadForGood : {C R O : Type 0} → Rules C R O → World C R O → Type 0
DeadForGood {C} {R} {O} rules w =
    (events : List (Event C R O)) (later : World C R O) → Run rules w events later
    → (p : Option Place) → IsDead rules.status w p → IsUntouched later p
