-- How far both ends of a connection came, for a connection that carried one message.
use Rattle.std.proofs.Common.{◌≡◌, ℕ, ◌<◌, ◌≤◌, ◌⊎◌, List, [], ◌∷◌, ◌++◌, length, Option, None, Some, Bool, true, false}
use Rattle.std.specs.Prelude.{slice_get}
use Rattle.call_world.specs.Service.{IsRefusal}
use Rattle.call_world.specs.World.{Connection, Seat, Turn, Dispatched, Refused, Sent, Validate, Answer, Outcome, Replied, Handed, Failed}
use Rattle.once_law.specs.Placed.{From, after, closing}

-- so many bytes were handed over, so many of these arrived, so many messages were read; and the turns that the server's
-- session gave, and whether it closed, where there was one
pub record Link (R : Type 0) : Type 0 where
  pub handed : ℕ
  pub arrived : ℕ
  pub read : ℕ
  pub served : Option (List (Turn R) × Bool)

abbrev pub reply_of : {R : Type 0} → Turn R → R
reply_of (Dispatched r) = r
reply_of (Refused r) = r

-- the answers of a message: one that asks for a reply has one call
abbrev pub answers : {R : Type 0} → Bool → List (Turn R) → List (Sent R)
answers false ts = []
answers true [] = []
answers true (t ∷ ts) = Answer 0 (reply_of t) ∷ []

abbrev pub said : {R : Type 0} → Bool → List (Turn R) → Bool → List (Sent R)
said twoway ts closes = Validate ∷ (answers twoway ts ++ closing closes)

abbrev pub turns_at : {R : Type 0} → Option (List (Turn R) × Bool) → List (Turn R)
turns_at None = []
turns_at (Some s) = s.0

abbrev pub said_at : {R : Type 0} → Bool → Option (List (Turn R) × Bool) → List (Sent R)
said_at twoway None = []
said_at twoway (Some s) = said twoway s.0 s.1

-- a connection, whose server has not left
abbrev pub conn : {R : Type 0} → List Seat → ℕ → ℕ → ℕ → List (Turn R) → List (Sent R) → ℕ → Bool → Connection R
conn asked bytes handed arrived turns answered read left = record {
  asked = asked;
  asked_bytes = bytes;
  handed = handed;
  arrived = arrived;
  turns = turns;
  answered = answered;
  read = read;
  client_left = left;
  server_left = false;
}

abbrev pub linked : {R : Type 0} → List Seat → Bool → ℕ → Link R → Connection R
linked ss twoway size l = conn ss size l.handed l.arrived (turns_at l.served) (said_at twoway l.served) l.read true

abbrev pub IsAllowed : {R : Type 0} → (R → ℕ) → Turn R → Type 0
IsAllowed status (Dispatched r) = ¬ IsRefusal (status r)
IsAllowed status (Refused r) = IsRefusal (status r)

-- the ends fit together, for a message of so many bytes and so many calls
pub record IsLink {R : Type 0} (status : R → ℕ) (twoway : Bool) (size count : ℕ) (l : Link R) : Type 0 where
  pub arrived : l.arrived ≤ l.handed
  pub handed : l.handed ≤ size
  pub greeted : 0 < l.handed → 0 < l.read
  pub read : l.read ≤ length (said_at twoway l.served)
  pub whole : 0 < length (turns_at l.served) → size ≤ l.arrived
  pub room : length (turns_at l.served) ≤ count
  pub allowed : (n : ℕ) (t : Turn R) → slice_get (turns_at l.served) n ≡ Some t → IsAllowed status t

-- the client has read this answer
abbrev pub HasAnswer : {R : Type 0} → Bool → Link R → R → Type 0
HasAnswer {R} twoway l r =
    (t : Turn R) × (closes : Bool) × (twoway ≡ true) × (l.read ≡ 2) × (l.served ≡ Some (t ∷ [], closes)) × (reply_of t ≡ r)

-- the client has read a close, and no answer
abbrev pub HasClose : {R : Type 0} → Bool → Link R → Type 0
HasClose twoway l = (twoway ≡ true) × (l.read ≡ 2) × (l.served ≡ Some ([], true))

-- an attempt that can have no dispatch any more, as its client can tell
abbrev pub IsGone : {R : Type 0} → (R → ℕ) → Bool → ℕ → Link R → Type 0
IsGone {R} status twoway size l =
    (l.handed < size) ⊎ (HasClose twoway l ⊎ ((r : R) × HasAnswer twoway l r × (status r ≡ 2)))

abbrev pub AreRepeatable : {C : Type 0} → List (C × Bool) → Type 0
AreRepeatable {C} xs = From (λ (n : ℕ) (x : C × Bool). x.1 ≡ true) 0 xs

-- each attempt is well, and but for the last it may be followed
abbrev pub AreLinks : {C R : Type 0} → (R → ℕ) → Bool → ℕ → List (C × Bool) → List (Option (Link R)) → Type 0
AreLinks status twoway size xs [] = Unit {0}
AreLinks status twoway size xs (None ∷ ls) = AreLinks status twoway size xs ls
AreLinks status twoway size xs (Some l ∷ ls) =
    IsLink status twoway size (length xs) l
    × (0 < length ls → AreRepeatable xs ⊎ IsGone status twoway size l)
    × AreLinks status twoway size xs ls

-- the outcome is that of the last attempt
abbrev pub IsTold : {R : Type 0} → Bool → ℕ → Outcome R → List (Option (Link R)) → Type 0
IsTold {R} twoway size (Replied r) ls =
    (front : List (Option (Link R))) × (l : Link R) × (ls ≡ front ++ Some l ∷ []) × HasAnswer twoway l r
IsTold {R} twoway size Handed ls =
    (twoway ≡ false)
    × ((front : List (Option (Link R))) × (l : Link R) × (ls ≡ front ++ Some l ∷ []) × (size ≤ l.handed))
IsTold twoway size Failed ls = Unit {0}

-- a message, as its attempts went
pub record Fact (C R : Type 0) : Type 0 where
  -- each with whether it is idempotent
  pub calls : List (C × Bool)
  pub twoway : Bool
  pub size : ℕ
  pub tries : List (Option (Link R))
  pub result : Outcome R

pub record IsFact {C R : Type 0} (status : R → ℕ) (f : Fact C R) : Type 0 where
  pub some : 0 < length f.calls
  pub alone : f.twoway ≡ true → length f.calls ≡ 1
  pub links : AreLinks status f.twoway f.size f.calls f.tries
  pub told : IsTold f.twoway f.size f.result f.tries

-- the connections from c on are these
abbrev pub LinkAt : {R : Type 0} → (ℕ → Connection R) → List Seat → Bool → ℕ → ℕ → Option (Link R) → Type 0
LinkAt items ss twoway size c None = Unit {0}
LinkAt items ss twoway size c (Some l) = items c ≡ linked ss twoway size l

abbrev pub LinksAt : {R : Type 0} → (ℕ → Connection R) → List Seat → Bool → ℕ → ℕ → List (Option (Link R)) → Type 0
LinksAt items ss twoway size c [] = Unit {0}
LinksAt items ss twoway size c (t ∷ ls) = LinkAt items ss twoway size c t × LinksAt items ss twoway size (after c t) ls
