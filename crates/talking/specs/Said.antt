-- Messages that were said, as a link took them, and how its counts of failures rose.
use Rattle.std.specs.Prelude.{ℕ, ◌≡◌, ◌≢◌, ◌≤◌, ◌⊎◌, Bool, true, false, List, [], ◌∷◌, ◌++◌, length, Result, Ok, Err}
use Rattle.std.specs.List.{flat_map}
use Rattle.ice_ports.specs.declared.talk.Talk.{Talk}
use Rattle.ice_ports.specs.Failures.{one_more}
use Rattle.ice_messages.specs.declared.message.Message.{Message}
use Rattle.ice_messages.specs.Messages.{message_bytes, SpellsMessage}

-- the bytes of the messages, one behind the other
abbrev pub bytes_of : List Message → List ℕ
bytes_of = flat_map message_bytes

-- the bytes that were written of each spell it
abbrev pub AreSpelled : List Message → Type 0
AreSpelled [] = Unit {0}
AreSpelled (m ∷ ms) = SpellsMessage (message_bytes m) m × AreSpelled ms

-- all of the messages was taken
abbrev pub IsSaid : List Message → List ℕ → Type 0
IsSaid messages taken = (taken ≡ bytes_of messages) × AreSpelled messages

-- all of the messages was taken but the end of the last, which lacks a byte at least
pub record IsBegun (messages : List Message) (taken : List ℕ) : Type 0 where
  pub before : List Message
  pub last : Message
  pub parts : messages ≡ before ++ last ∷ []
  pub spelled : AreSpelled messages
  -- these bytes of the last were taken, and these were not
  pub begun : List ℕ
  pub lacks : List ℕ
  pub taken_is : taken ≡ bytes_of before ++ begun
  pub last_is : message_bytes last ≡ begun ++ lacks
  pub some : lacks ≢ []

-- ---- step by step: each says a message or none

-- what the steps say, in order
abbrev pub all_of : List (List Message) → List Message
all_of = flat_map (λ said. said)

-- all before the last step was said, and all of that but the end
pub record IsCut (steps : List (List Message)) (taken : List ℕ) : Type 0 where
  pub before : List (List Message)
  pub last : List Message
  pub parts : steps ≡ before ++ last ∷ []
  pub whole : List ℕ
  pub begun : List ℕ
  pub taken_is : taken ≡ whole ++ begun
  pub is_said : IsSaid (all_of before) whole
  pub is_begun : IsBegun last begun

-- all was said, or nothing of the last step and all before it
abbrev pub IsSaidBut : List (List Message) → List ℕ → Type 0
IsSaidBut steps taken = (before last : List (List Message)) × (steps ≡ before ++ last) × (length last ≤ 1) × IsSaid (all_of before) taken

-- ---- in one call

-- neither an end nor a failure came
abbrev pub IsFine : Talk → Type 0
IsFine t = (t.ended ≡ false) × (t.failed ≡ false)

-- these messages were said; or a write failed before the end of the last one; or memory lacked, and nothing was said
abbrev pub Says : {E : Type 0} → List Message → Talk → Result Bool E → Type 0
Says messages t (Ok true) = (t.given ≡ []) × IsSaid messages t.taken × IsFine t
Says messages t (Ok false) = (t.given ≡ []) × IsBegun messages t.taken × (t.failed ≡ true)
Says messages t (Err e) = (t.given ≡ []) × (t.taken ≡ []) × IsFine t

-- in a call that failed or not, one read or one write failed, or none
abbrev pub Counts : Bool → (ℕ × ℕ) → (ℕ × ℕ) → Type 0
Counts false old new = new ≡ old
Counts true old new = (new ≡ (one_more old.0, old.1)) ⊎ (new ≡ (old.0, one_more old.1))

-- a message could not be said
abbrev pub fails_said : {E : Type 0} → Result Bool E → Bool
fails_said (Ok true) = false
fails_said (Ok false) = true
fails_said (Err e) = false
