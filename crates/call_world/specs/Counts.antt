-- Which dispatches an invocation had. (Ice manual, "At-Most-Once Semantics".)
use Rattle.std.specs.Prelude.{◌≡◌, ℕ, true, false, Option, None, Some, slice_get, ◌==◌, count_by, Bool}
use Rattle.call_world.specs.World.{World, Seat, Place, Dispatch}

-- whether this is a seat of invocation i
abbrev pub is_of : ℕ → Option Seat → Bool
is_of i None = false
is_of i (Some s) = s.invocation == i

-- whether this is a dispatch of invocation i
abbrev pub belongs : {C R O : Type 0} → World C R O → ℕ → Dispatch R → Bool
belongs w i d = is_of i (slice_get (w.connections d.connection).asked d.seat)

-- how often invocation i was dispatched
abbrev pub count : {C R O : Type 0} → World C R O → ℕ → ℕ
count w i = count_by (belongs w i) w.dispatches

-- a dispatch of invocation i recorded the reply r
abbrev pub IsRecorded : {C R O : Type 0} → World C R O → ℕ → R → Type 0
IsRecorded {C} {R} w i r =
    (n : ℕ) × (d : Dispatch R) × (slice_get w.dispatches n ≡ Some d) × (belongs w i d ≡ true) × (d.reply ≡ r)

-- no dispatch has this place
abbrev pub IsUntouched : {C R O : Type 0} → World C R O → Option Place → Type 0
IsUntouched {C} {R} w p =
    (n : ℕ) (d : Dispatch R) → slice_get w.dispatches n ≡ Some d
    → ¬ (p ≡ Some (record { connection = d.connection; seat = d.seat }))
