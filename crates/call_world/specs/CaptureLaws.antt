-- What every world that shows a capture tells of a call in it.
use Rattle.std.specs.Prelude.{◌≡◌, ◌≤◌, ℕ, Bool, true, false, List, Some, slice_get}
use Rattle.call_world.specs.Service.{IsRefusal, Rules, free_rules}
use Rattle.call_world.specs.World.{World, Seat, Sent, Answer, Close}
use Rattle.call_world.specs.Step.{IsReached}
use Rattle.call_world.specs.Counts.{count}
use Rattle.call_world.specs.Asked.{Asked, Wanted, wanted, shown}
use Rattle.call_world.specs.Fits.{Fits}
use Rattle.call_world.specs.Orders.{IsInOrder}

-- so many dispatches has the call in this seat, in each world with free objects that shows the capture
abbrev pub Counts : {C R : Type 0} → (R → ℕ) → (C → Bool) → List (Asked C) → List (Sent R) → ℕ → (ℕ → Type 0) → Type 0
Counts {C} {R} status idempotent client sent seat IsSo =
    (w : World C R (Unit {0})) (s : Seat) → IsReached (free_rules status) tt w → Fits idempotent client sent w
    → slice_get (w.connections 0).asked seat ≡ Some s → IsSo (count w s.invocation)

abbrev pub AtMostOnce : {C R : Type 0} → (R → ℕ) → (C → Bool) → Type 0
AtMostOnce {C} {R} status idempotent =
    (client : List (Asked C)) (sent : List (Sent R)) (seat : ℕ) → Counts status idempotent client sent seat (λ n. n ≤ 1)

-- its reply stands, and is no refusal
abbrev pub OnceAnswered : {C R : Type 0} → (R → ℕ) → (C → Bool) → Type 0
OnceAnswered {C} {R} status idempotent =
    (client : List (Asked C)) (sent : List (Sent R)) (seat m : ℕ) (r : R) → slice_get sent m ≡ Some (Answer seat r)
    → ¬ IsRefusal (status r) → Counts status idempotent client sent seat (λ n. n ≡ 1)

-- its reply is a refusal
abbrev pub NeverRefused : {C R : Type 0} → (R → ℕ) → (C → Bool) → Type 0
NeverRefused {C} {R} status idempotent =
    (client : List (Asked C)) (sent : List (Sent R)) (seat m : ℕ) (r : R) → slice_get sent m ≡ Some (Answer seat r)
    → IsRefusal (status r) → Counts status idempotent client sent seat (λ n. n ≡ 0)

-- it asks for a reply, which does not stand, and the close of the server does
abbrev pub NeverClosed : {C R : Type 0} → (R → ℕ) → (C → Bool) → Type 0
NeverClosed {C} {R} status idempotent =
    (client : List (Asked C)) (sent : List (Sent R)) (seat m : ℕ) (x : Wanted C) → slice_get (wanted 0 client) seat ≡ Some x
    → x.twoway ≡ true → slice_get sent m ≡ Some Close → ((n : ℕ) (r : R) → ¬ (slice_get sent n ≡ Some (Answer seat r)))
    → Counts status idempotent client sent seat (λ n. n ≡ 0)

-- there is a run in which the client asks this, and the server answers the first that ask for it, and perhaps closes
abbrev pub CanShow : {C R : Type 0} → (R → ℕ) → (C → Bool) → Type 0
CanShow {C} {R} status idempotent =
    (other : R) → ¬ IsRefusal (status other) → (client : List (Asked C)) (rs : List R) (closed : Bool)
    → (w : World C R (Unit {0})) × IsReached (free_rules status) tt w × Fits idempotent client (shown client rs closed) w

-- a run with one dispatch of the call in this seat, and one with none
abbrev pub HasEach : {C R : Type 0} → (R → ℕ) → (C → Bool) → List (Asked C) → List (Sent R) → ℕ → Type 0
HasEach {C} {R} status idempotent client sent seat =
    (n : ℕ) → n ≤ 1 → (w : World C R (Unit {0})) × (s : Seat) × IsReached (free_rules status) tt w × Fits idempotent client sent w
    × (slice_get (w.connections 0).asked seat ≡ Some s) × (count w s.invocation ≡ n)

-- it asks for a reply, and neither that nor a close stands
abbrev pub EitherOpen : {C R : Type 0} → (R → ℕ) → (C → Bool) → Type 0
EitherOpen {C} {R} status idempotent =
    (other : R) → ¬ IsRefusal (status other) → (client : List (Asked C)) (rs : List R) (seat : ℕ) (x : Wanted C)
    → slice_get (wanted 0 client) seat ≡ Some x → x.twoway ≡ true
    → ((n : ℕ) (r : R) → ¬ (slice_get (shown client rs false) n ≡ Some (Answer seat r)))
    → HasEach status idempotent client (shown client rs false) seat

-- in every reached world the server answers in order
abbrev pub AnswersInOrder : {C R O : Type 0} → Rules C R O → Type 0
AnswersInOrder {C} {R} {O} rules = (o : O) (w : World C R O) → IsReached rules o w → (c : ℕ) → IsInOrder (w.connections c)
