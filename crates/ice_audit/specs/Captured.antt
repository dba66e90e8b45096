-- What the messages of a captured connection ask and answer, and which captures are good. (Ice manual, "The Ice Protocol".)
use Rattle.std.specs.Prelude.{ℕ, ℤ, pos, negsuc, zero, suc, ◌≡◌, Bool, true, false, List, [], ◌∷◌, ◌++◌}
use Rattle.ice_messages.specs.declared.message.Call.{Call}
use Rattle.ice_messages.specs.declared.message.Answer.{Answer}
use Rattle.ice_messages.specs.declared.message.Message.{Message}
use Rattle.ice_messages.specs.declared.message.Message.TheVariants.{Request, Batch, Reply, Validate, Close}
use Rattle.call_world.specs.Asked.{Asked, Single, Several}
use Rattle.ice_audit.specs.Pieces.{Piece, messages_of}

-- ---- the client

-- a request with this id asks for a reply
abbrev pub is_asked : ℤ → Bool
is_asked (pos zero) = false
is_asked (pos (suc n)) = true
is_asked (negsuc n) = true

-- a batch without calls asks nothing
abbrev pub batch_asked : List Call → ℕ → List (Asked Call) → List (Asked Call)
batch_asked [] size others = others
batch_asked (c ∷ cs) size others = Several c cs size ∷ others

abbrev pub asked_by : Message → ℕ → List (Asked Call) → List (Asked Call)
asked_by (Request id c) size others = Single (is_asked id) c size ∷ others
asked_by (Batch calls) size others = batch_asked calls size others
asked_by (Reply id a) size others = others
asked_by Validate size others = others
asked_by Close size others = others

abbrev pub asked_in : List Piece → List (Asked Call)
asked_in [] = []
asked_in (p ∷ ps) = asked_by p.0 p.1 (asked_in ps)

-- the ids of the calls, one by one; those of a batch have 0
abbrev pub batch_ids : List Call → List ℤ → List ℤ
batch_ids [] others = others
batch_ids (c ∷ cs) others = pos 0 ∷ batch_ids cs others

abbrev pub ids_by : Message → List ℤ → List ℤ
ids_by (Request id c) others = id ∷ others
ids_by (Batch calls) others = batch_ids calls others
ids_by (Reply id a) others = others
ids_by Validate others = others
ids_by Close others = others

abbrev pub seat_ids : List Piece → List ℤ
seat_ids [] = []
seat_ids (p ∷ ps) = ids_by p.0 (seat_ids ps)

-- those that ask for a reply
abbrev pub due_if : Bool → ℤ → List ℤ → List ℤ
due_if true id others = id ∷ others
due_if false id others = others

abbrev pub due : List ℤ → List ℤ
due [] = []
due (id ∷ ids) = due_if (is_asked id) id (due ids)

-- requests, batches, validates, and at most one close, the last
abbrev pub IsClientSide : List Message → Type 0
IsClientSide [] = Unit {0}
IsClientSide (Request id c ∷ ms) = IsClientSide ms
IsClientSide (Batch calls ∷ ms) = IsClientSide ms
IsClientSide (Reply id a ∷ ms) = ⊥
IsClientSide (Validate ∷ ms) = IsClientSide ms
IsClientSide (Close ∷ ms) = ms ≡ []

-- ---- the server

abbrev pub IsServerSide : List Message → Type 0
IsServerSide [] = Unit {0}
IsServerSide (Request id c ∷ ms) = ⊥
IsServerSide (Batch calls ∷ ms) = ⊥
IsServerSide (Reply id a ∷ ms) = IsServerSide ms
IsServerSide (Validate ∷ ms) = IsServerSide ms
IsServerSide (Close ∷ ms) = ms ≡ []

abbrev pub without_validates : List Message → List Message
without_validates [] = []
without_validates (Request id c ∷ ms) = Request id c ∷ without_validates ms
without_validates (Batch calls ∷ ms) = Batch calls ∷ without_validates ms
without_validates (Reply id a ∷ ms) = Reply id a ∷ without_validates ms
without_validates (Validate ∷ ms) = without_validates ms
without_validates (Close ∷ ms) = Close ∷ without_validates ms

-- a validate that is not the first one says nothing
abbrev pub first_validate : List Message → List Message
first_validate [] = []
first_validate (m ∷ ms) = m ∷ without_validates ms

abbrev pub replies_by : Message → List (ℤ × Answer) → List (ℤ × Answer)
replies_by (Request id c) others = others
replies_by (Batch calls) others = others
replies_by (Reply id a) others = (id, a) ∷ others
replies_by Validate others = others
replies_by Close others = others

abbrev pub replies_in : List Message → List (ℤ × Answer)
replies_in [] = []
replies_in (m ∷ ms) = replies_by m (replies_in ms)

abbrev pub reply_ids : List (ℤ × Answer) → List ℤ
reply_ids [] = []
reply_ids (r ∷ rs) = r.0 ∷ reply_ids rs

abbrev pub reply_answers : List (ℤ × Answer) → List Answer
reply_answers [] = []
reply_answers (r ∷ rs) = r.1 ∷ reply_answers rs

abbrev pub closes : List Message → Bool
closes [] = false
closes (Request id c ∷ ms) = closes ms
closes (Batch calls ∷ ms) = closes ms
closes (Reply id a ∷ ms) = closes ms
closes (Validate ∷ ms) = closes ms
closes (Close ∷ ms) = true

-- ---- both

-- the n-th reply has the id of the n-th request that asks for one
pub record IsGood (client : List Piece) (server : List Message) : Type 0 where
  pub client_side : IsClientSide (messages_of client)
  pub others : List Message
  pub greeted : server ≡ Validate ∷ others
  pub server_side : IsServerSide others
  pub more : List ℤ
  pub answered : due (seat_ids client) ≡ reply_ids (replies_in others) ++ more
