-- What can happen: the laws speak of worlds that there are.
use Rattle.std.specs.Prelude.{◌≡◌, true, false, Some}
use Rattle.call_world.specs.Service.{Rules}
use Rattle.call_world.specs.World.{World, Invocation, Replied}
use Rattle.call_world.specs.Step.{IsReached}
use Rattle.call_world.specs.Counts.{count}

-- a call that is not idempotent is dispatched once, and finished with that reply
abbrev pub CanSucceed : {C R O : Type 0} → Rules C R O → O → C → R → Type 0
CanSucceed {C} {R} {O} rules objects call reply =
    (w : World C R O) × (v : Invocation C R) × IsReached rules objects w × (w.invocations 0 ≡ Some v)
    × (v.call ≡ call) × (v.idempotent ≡ false) × (v.result ≡ Some (Replied reply)) × (count w 0 ≡ 1)

-- an idempotent call is dispatched twice
abbrev pub CanRepeat : {C R O : Type 0} → Rules C R O → O → C → Type 0
CanRepeat {C} {R} {O} rules objects call =
    (w : World C R O) × (v : Invocation C R) × IsReached rules objects w × (w.invocations 0 ≡ Some v)
    × (v.call ≡ call) × (v.idempotent ≡ true) × (count w 0 ≡ 2)

-- whatever reply the objects may give to a call, one that is not idempotent can be finished with it
abbrev pub CallsCanSucceed : {C R O : Type 0} → Rules C R O → Type 0
CallsCanSucceed {C} {R} {O} rules =
    (objects next_ : O) (call : C) (reply : R) → rules.may_dispatch objects call
    → rules.dispatches objects call reply next_ → CanSucceed rules objects call reply

-- and an idempotent one can be dispatched again, where the objects dispatch it again
abbrev pub CallsCanRepeat : {C R O : Type 0} → Rules C R O → Type 0
CallsCanRepeat {C} {R} {O} rules =
    (objects mid last : O) (call : C) (first second : R) → rules.may_dispatch objects call
    → rules.dispatches objects call first mid → rules.may_dispatch mid call
    → rules.dispatches mid call second last → CanRepeat rules objects call
