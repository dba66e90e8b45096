-- Calls of messages in a world of calls: numbered in order, as connections are.
use Rattle.std.specs.Prelude.{ℕ, suc, ◌≡◌, Bool, true, false, List, [], ◌∷◌, map, Option, None, Some}
use Rattle.call_world.specs.World.{Seat, Sent, Close, Place, Invocation, Outcome}

-- it holds of each item at its number, from this number on
abbrev pub From : {A : Type 0} → (ℕ → A → Type 0) → ℕ → List A → Type 0
From Is n [] = Unit {0}
From Is n (x ∷ xs) = Is n x × From Is (suc n) xs

-- these stand there, from this number on
abbrev pub Stand : {A : Type 0} → (ℕ → Option A) → ℕ → List A → Type 0
Stand items first xs = From (λ n x. items n ≡ Some x) first xs

-- ---- attempts: each that connected has a connection, numbered from c on

-- the number behind this attempt
abbrev pub after : {A : Type 0} → ℕ → Option A → ℕ
after c None = c
after c (Some x) = suc c

abbrev pub connection_of : {A : Type 0} → ℕ → Option A → Option ℕ
connection_of c None = None
connection_of c (Some x) = Some c

abbrev pub connections : {A : Type 0} → ℕ → List (Option A) → List (Option ℕ)
connections c [] = []
connections c (t ∷ tries) = connection_of c t ∷ connections (after c t) tries

-- the number behind these attempts
abbrev pub after_all : {A : Type 0} → ℕ → List (Option A) → ℕ
after_all c [] = c
after_all c (t ∷ tries) = after_all (after c t) tries

-- ---- the calls of one message, each with whether it is idempotent: they have its seats on each of its connections

abbrev pub place_at : ℕ → Option ℕ → Option Place
place_at seat None = None
place_at seat (Some c) = Some (record { connection = c; seat = seat })

-- the call in this seat of its message
abbrev pub invocation : {C R : Type 0} → Bool → List (Option ℕ) → Option (Outcome R) → ℕ → C × Bool → Invocation C R
invocation twoway connected result seat x = record {
  call = x.0;
  idempotent = x.1;
  twoway = twoway;
  attempts = map (place_at seat) connected;
  result = result;
}

abbrev pub invocations : {C R : Type 0} → Bool → List (Option ℕ) → Option (Outcome R) → ℕ → List (C × Bool) → List (Invocation C R)
invocations twoway connected result seat [] = []
invocations twoway connected result seat (x ∷ xs) =
    invocation twoway connected result seat x ∷ invocations twoway connected result (suc seat) xs

-- their seats: the first is that of invocation i, and their message has so many bytes
abbrev pub seats : {X : Type 0} → ℕ → Bool → ℕ → List X → List Seat
seats i twoway size [] = []
seats i twoway size (x ∷ xs) = record { invocation = i; twoway = twoway; ends = size } ∷ seats (suc i) twoway size xs

-- ---- what a server says last

abbrev pub closing : {R : Type 0} → Bool → List (Sent R)
closing true = Close ∷ []
closing false = []
