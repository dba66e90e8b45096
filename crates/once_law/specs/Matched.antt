-- The same for what clients say and what servers say apart, with a matching of attempts and sessions.
use Rattle.std.specs.Prelude.{ℕ, suc, ◌≡◌, List, [], ◌∷◌, Option, None, Some, slice_get}
use Rattle.ice_messages.specs.declared.message.Message.{Message}
use Rattle.ice_client.specs.declared.outcome.Outcome.{Outcome}
use Rattle.ice_client.specs.ClientDid.{ClientDid, Tried}
use Rattle.once_law.specs.Ends.{Session, IsSession, Attempted, Delivery, IsMet, IsSent}

-- what a client says of one message
pub record Client : Type 0 where
  pub message : Message
  pub retries : ℕ
  pub tried : List Tried
  pub outcome : Option Outcome

abbrev pub IsClient : Client → Type 0
IsClient c = IsSent c.message × ClientDid c.message c.retries c.tried c.outcome

-- the number of the session at the other end of attempt number n of message number d, where there is one
abbrev pub Matching : Type 0
Matching = ℕ → ℕ → Option ℕ

-- attempt number n of message number d is this
abbrev pub IsAttempt : List Client → ℕ → ℕ → Tried → Type 0
IsAttempt clients d n t = (c : Client) × (slice_get clients d ≡ Some c) × (slice_get c.tried n ≡ Some t)

abbrev pub session_at : List Session → Option ℕ → Option Session
session_at sessions None = None
session_at sessions (Some s) = slice_get sessions s

-- clients and servers, matched
pub record AreMatched (clients : List Client) (sessions : List Session) (other : Matching) : Type 0 where
  pub clients_are : (d : ℕ) (c : Client) → slice_get clients d ≡ Some c → IsClient c
  pub sessions_are : (s : ℕ) (x : Session) → slice_get sessions s ≡ Some x → IsSession x
  -- each attempt has its own connection, and each session its own: no session is at the other end of two attempts
  pub own : (s d n e m : ℕ) → other d n ≡ Some s → other e m ≡ Some s → (d ≡ e) × (n ≡ m)
  -- each session belongs to an attempt
  pub belongs :
      (s : ℕ) (x : Session) → slice_get sessions s ≡ Some x
      → (d n : ℕ) × (t : Tried) × IsAttempt clients d n t × (other d n ≡ Some s)
  -- the bytes that each was given are the first of those that the other took, and without a session none was given
  pub fit : (d n : ℕ) (t : Tried) → IsAttempt clients d n t → IsMet t.talk (session_at sessions (other d n))

-- each session within its attempt
module _ (sessions : List Session) (other : Matching) where
  abbrev pub attempts_from : ℕ → ℕ → List Tried → List Attempted
  attempts_from d n [] = []
  attempts_from d n (t ∷ tried) =
      record { tried = t; session = session_at sessions (other d n) } ∷ attempts_from d (suc n) tried

  abbrev pub joined_from : ℕ → List Client → List Delivery
  joined_from d [] = []
  joined_from d (c ∷ clients) =
      record {
        message = c.message;
        retries = c.retries;
        attempts = attempts_from d 0 c.tried;
        outcome = c.outcome;
      } ∷ joined_from (suc d) clients

abbrev pub joined : List Client → List Session → Matching → List Delivery
joined clients sessions other = joined_from sessions other 0 clients
